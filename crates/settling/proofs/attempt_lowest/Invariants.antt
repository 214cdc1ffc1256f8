use Rattle.std.proofs.Common.{◌≡◌, drop}
use Rattle.settling.specs.Settle.{lowest_ready}
use Rattle.settling.specs.Books.{Level, lowest_in}
use Rattle.settling.proofs.attempt_lowest.Given as goal

abbrev pub invariant-loop-i : goal.invariant-loop-i
invariant-loop-i g l =
    (lowest_ready g.B.Book.valid g.B.Book.next l.i (g.B.Book.current l.initial.book) (drop l.i l.rows)
    ≡ lowest_in g.B.Book l.initial.book l.rows)
    × (g.B.Book.current l.book ≡ g.B.Book.current l.initial.book)
    × Level g.B.Book l.book
    × (g.B.Book.opening l.book ≡ g.B.Book.opening l.initial.book)
