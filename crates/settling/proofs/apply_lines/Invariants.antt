use Rattle.std.proofs.Common.{◌≡◌, drop}
use Rattle.settling.specs.Settle.{after_lines, first_invalid}
use Rattle.settling.proofs.apply_lines.Given as goal

abbrev pub invariant-loop-i : goal.invariant-loop-i
invariant-loop-i g l = record {
  first : first_invalid g.B.Book.valid g.B.Book.next l.docket.account l.i (g.B.Book.current l.book) (drop l.i l.lines)
      ≡ first_invalid g.B.Book.valid g.B.Book.next l.docket.account 0 (g.B.Book.current l.initial.book) l.lines;
  end : after_lines g.B.Book.valid g.B.Book.next l.docket.account (g.B.Book.current l.book) (drop l.i l.lines)
      ≡ after_lines g.B.Book.valid g.B.Book.next l.docket.account (g.B.Book.current l.initial.book) l.lines;
  kept : g.B.Book.kept l.book ≡ g.B.Book.kept l.initial.book;
  opening : g.B.Book.opening l.book ≡ g.B.Book.opening l.initial.book;
}
