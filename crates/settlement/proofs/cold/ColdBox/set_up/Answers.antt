use Rattle.std.proofs.Common.{sym, ◌∙◌}
use Rattle.settling.proofs.OrderFree.{order_free as settles-free}
use Rattle.settlement.proofs.Order.{AtStart, taking_order_free}
use Rattle.settlement.proofs.cold.ColdBox.set_up.Goals as goal

pub returns-then-not-in_range-clause-settling : goal.returns-then-not-in_range-clause-settling
returns-then-not-in_range-clause-settling g c = settles-free g.B.Book.valid g.B.Book.next _ (g.met.B.Book.independence c.args.book)

pub returns-clause-settling : goal.returns-clause-settling
returns-clause-settling g c = settles-free g.B.Book.valid g.B.Book.next _ (g.met.B.Book.independence c.args.book)

pub returns-clause-order_free : goal.returns-clause-order_free
returns-clause-order_free g c =
    let book = c.reset.ensures in
    let start : AtStart _ = record { kept = book.kept ∙ sym book.opening; current = book.current ∙ sym book.opening; accounts = c.new.ensures } in
    taking_order_free g.B.Book.valid g.B.Book.next (g.C.Checker.good c.args.checker) _ start (g.met.B.Book.independence c.reset.new.self)
