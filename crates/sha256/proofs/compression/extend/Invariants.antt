use Rattle.std.proofs.Common.{◌≡◌, ◌-◌, length, take}
use Rattle.sha256.specs.Compression.{extended}
use Rattle.sha256.proofs.compression.extend.Given as goal

abbrev pub invariant-loop-t : goal.invariant-loop-t
invariant-loop-t l =
    (length l.words ≡ 64) ×
    (take l.t l.words ≡ extended (l.t - 16) (take 16 l.initial.words))
