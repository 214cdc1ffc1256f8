use Rattle.std.proofs.Common.{◌≡◌, ℕ, List, ◌++◌, length}
use Rattle.lms.specs.Chains.{chain_ends}
use Rattle.lms.specs.Hashes.{head}
use Rattle.sha256.specs.Digest.{sha256}
use Rattle.sha256.specs.Hasher.{after}
use Rattle.lms.proofs.chains.one_time_key.Given as goal

abbrev pub invariant-loop-i : goal.invariant-loop-i
invariant-loop-i l =
    (rest : List ℕ) → after l.hasher rest ≡ sha256 (head l.leaf.id.now l.leaf.number 0x8080 ++ (chain_ends l.leaf.id.now l.leaf.number l.digits l.values (length l.yielded) ++ rest))
