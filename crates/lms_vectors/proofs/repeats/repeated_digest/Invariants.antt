use Rattle.std.proofs.Common.{◌≡◌, ℕ, List, ◌++◌}
use Rattle.lms_vectors.specs.Repeats.{copies}
use Rattle.sha256.specs.Digest.{sha256}
use Rattle.sha256.specs.Hasher.{after}
use Rattle.lms_vectors.proofs.repeats.repeated_digest.Given as goal

abbrev pub invariant-loop-i : goal.invariant-loop-i
invariant-loop-i l = (rest : List ℕ) → after l.hasher rest ≡ sha256 (copies l._i l.pattern ++ rest)
