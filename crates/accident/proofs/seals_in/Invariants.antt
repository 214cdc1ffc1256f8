use Rattle.std.proofs.Common.{◌≡◌, vec_items}
use Rattle.accident.specs.Story.{seals_in}
use Rattle.accident.proofs.seals_in.Given as goal

abbrev pub invariant-loop-seal : goal.invariant-loop-seal
invariant-loop-seal l = vec_items l.seals ≡ seals_in l.seal-index l.votes.seals
