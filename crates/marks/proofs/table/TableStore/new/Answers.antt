use Rattle.std.proofs.Common.{◌≡◌, ◌<◌, ◌≤◌, map, length, MatchOption, Some, refl, subst, rules}
use Rattle.marks.specs.Outcomes.{ends}
use Rattle.marks.specs.Rows.{coming}
use Rattle.marks.proofs.Kept.{unmarked}
use Rattle.marks.proofs.table.TableStore.new.Goals as goal

pub returns : goal.returns
returns c =
    let outcomes = c.args.row.now in
    let is : c.new.result ≡ Some c.in_ok-row.row = search rules in
    let e = subst (λ r. MatchOption r (64 < length outcomes) (λ row. (length outcomes ≤ 64) × (coming row ≡ map ends outcomes))) is c.new.ensures in
    (e.0, refl, unmarked 64, e.1)
