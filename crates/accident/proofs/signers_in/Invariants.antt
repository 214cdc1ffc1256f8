use Rattle.std.proofs.Common.{◌≡◌, vec_items}
use Rattle.accident.specs.Story.{signers_in}
use Rattle.accident.proofs.signers_in.Given as goal

abbrev pub invariant-loop-number : goal.invariant-loop-number
invariant-loop-number l = vec_items l.signers ≡ signers_in l.number l.votes.seals
