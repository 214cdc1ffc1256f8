use Rattle.std.proofs.Common.{◌≡◌, ◌+◌, ◌*◌, ◌≤◌, length, take}
use Rattle.certificate.specs.Table.{behind, read_rows, seals_end}
use Rattle.certificate.proofs.Rows.{left}
use Rattle.certificate.proofs.read.read_table.Given as goal

abbrev pub invariant-loop-i : goal.invariant-loop-i
invariant-loop-i l =
    (length l.table ≡ 13) × (l.place ≤ 188 + 65535 * l.i)
    × (seals_end (84 + 8 * l.count) (take l.i l.table) ≡ l.place)
    × (behind (take l.i l.table) (left l.boxes l.count l.i l.least l.place l.head) ≡ read_rows l.boxes l.count 4 0 (84 + 8 * l.count) l.head)
