use Rattle.std.proofs.Common.{sym, ap, ◌∙◌, leb, not, ◌&&◌, ◌+◌, ◌*◌, rules, tests}
use Rattle.std.proofs.lemmas.Iterator.Search.{position_from_yields_List}
use Rattle.std.proofs.lemmas.Iterator.Adapters.{position_from-zero}
use Rattle.std.proofs.lemmas.Iterator.Consumers.{YieldsList-from_enumerate}
use Rattle.std.proofs.lemmas.Iterator.{YieldsList-from_slice}
use Rattle.std.specs.List.{enumerate_from}
use Rattle.std.specs.Option.{option_map}
use Rattle.docket.specs.Layout.{blank}
use Rattle.docket.proofs.Lines.{mapped, wrong_at}
use Rattle.docket.proofs.wrong_line.Goals as goal

pub returns : goal.returns
returns c =
    let lines = c.args.lines.now in
    let first = position_from_yields_List (λ p. leb c.args.count p.0 && not (blank p.1)) _ _ c.position.result c.position.ensures.ran (YieldsList-from_enumerate (YieldsList-from_slice lines cc) cc) (λ x b q k. search (rules, tests)) in
    mapped (λ i. 16 + 16 * i) _ _ _ c.map.ensures.cases (λ x y k. search rules)
    ∙ (ap (option_map (λ i. 16 + 16 * i)) (first ∙ position_from-zero _ (enumerate_from 0 lines)) ∙ sym (wrong_at c.args.count 0 lines))
