use Rattle.std.proofs.Common.{◌≡◌, ◌+◌, ◌*◌, ◌≤◌, ◌++◌, length, take, drop}
use Rattle.certificate.specs.Table.{rows}
use Rattle.certificate.proofs.write.put_rows.Given as goal

abbrev pub invariant-loop-i : goal.invariant-loop-i
invariant-loop-i l =
    (l.place ≤ 188 + 65535 * l.i)
    × (take (4 + 8 * l.i) l.head ++ rows l.place (drop l.i l.signers) ≡ take 4 l.initial.head ++ rows (84 + 8 * length l.signers) l.signers)
