use Rattle.std.proofs.Common.{◌≡◌}
use Rattle.settling.specs.Settle.{waiting_count}
use Rattle.settling.specs.Books.{Level, ledger_of}
use Rattle.settling.proofs.Closing.{Along}
use Rattle.settling.proofs.settle.Given as goal

abbrev pub invariant-settling : goal.invariant-settling
invariant-settling g l =
    Along g.B.Book.valid g.B.Book.next (ledger_of g.B.Book l.initial.book l.initial.accounts.rows) l.count (ledger_of g.B.Book l.book l.accounts.rows)
    × Level g.B.Book l.book
    × (g.B.Book.opening l.book ≡ g.B.Book.opening l.initial.book)

abbrev pub decreases-settling : goal.decreases-settling
decreases-settling g l = waiting_count l.accounts.rows
