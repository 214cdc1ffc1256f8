use Rattle.std.proofs.Common.{◌≡◌, cond}
use Rattle.lms.specs.Keys.{good_under}
use Rattle.lms_vectors.proofs.seals_check.count_good.Given as goal

abbrev pub invariant-loop-i : goal.invariant-loop-i
invariant-loop-i l = l.count ≡ cond (good_under l.keys 76 l.text l.seal) l._i 0
