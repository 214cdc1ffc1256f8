use Rattle.std.proofs.Common.{◌≡◌, true, false, [], None, get_or, sym, ◌∙◌, subst, rules}
use Rattle.std.proofs.lemmas.Bool.{false≢true}
use Rattle.std.proofs.lemmas.Iterator.{cases_from_all, YieldsList-from_slice}
use Rattle.accident.specs.declared.boxes.Report.{Report}
use Rattle.accident.specs.Story.{Agreed}
use Rattle.accident.proofs.Reports.{same, report_decides, agreed_by}
use Rattle.accident.proofs.in_common.Goals as goal

pub returns : goal.returns
returns c =
    let reports = c.args.reports.now in
    let first : Report = get_or reports 0 (record { balances = []; next = None }) in
    let d = cases_from_all _ _ c.all-same.result (λ r. r ≡ first) (λ r. r ≡ first → ⊥) c.all-same.ensures.ran (YieldsList-from_slice reports cc)
    (λ x q k. let e : true ≡ same x.now first = search rules in (search rules, (report_decides x.now first).0 (sym e)))
    (λ x q k. let e : false ≡ same x.now first = search rules in λ p. absurd (false≢true (e ∙ (report_decides x.now first).1 p))) in
    subst (Agreed reports) (sym c.then_some.ensures) (agreed_by c.all-same.result reports _ c.told-reports d)
