use Rattle.std.proofs.Common.{rules}
use Rattle.std.proofs.lemmas.Slice.{overwrites}
use Rattle.layout.proofs.put.Goals as goal

pub returns-then-part-out-clause-rest : goal.returns-then-part-out-clause-rest
returns-then-part-out-clause-rest c = λ n h. search (rules, overwrites)
