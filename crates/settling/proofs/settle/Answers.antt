use Rattle.std.proofs.Common.{sym, refl, ap, ◌∙◌, arith, rules}
use Rattle.settling.specs.Settle.{Ledger}
use Rattle.settling.proofs.Closing.{along_none, along_next, along_end, settles, turn_less, turn_count, lowest_some, lowest_none}
use Rattle.settling.proofs.settle.Goals as goal

pub settling-init : goal.settling-init
settling-init g c =
    (along_none g.B.Book.valid g.B.Book.next _, c.keep.ensures.kept ∙ sym c.keep.ensures.current, refl)

pub advance-requires : goal.advance-requires
advance-requires g c =
    let e = lowest_some g.B.Book.valid g.B.Book.next _ _ c.in-Some.account _ c.in-Some.ensures.answer c.in-Some.ensures.book.current in
    let z = settles g.B.Book.valid g.B.Book.next _ c.settling.accounts.rows c.in-Some.account _ e in
    record { within = omega (arith, z.within, c.settling.accounts.small.0); due = z.due }

pub overflow_add-count : goal.overflow_add-count
overflow_add-count g c =
    let h = turn_count g.B.Book.valid g.B.Book.next _ _ c.settling.count c.args.accounts.now.small c.settling.invariant.0 in
    search rules

pub settling-smaller : goal.settling-smaller
settling-smaller g c =
    let e = lowest_some g.B.Book.valid g.B.Book.next _ _ c.in-Some.account _ c.in-Some.ensures.answer c.in-Some.ensures.book.current in
    turn_less g.B.Book.valid g.B.Book.next _ _ c.settling.accounts.rows c.advance.new.self.rows c.in-Some.account e c.advance.ensures

pub settling-preserved : goal.settling-preserved
settling-preserved g c =
    let e = lowest_some g.B.Book.valid g.B.Book.next _ _ c.in-Some.account _ c.in-Some.ensures.answer c.in-Some.ensures.book.current in (
      along_next g.B.Book.valid g.B.Book.next _ _ _ c.settling.accounts.rows c.advance.new.self.rows c.settling.count c.in-Some.account c.settling.invariant.0 e c.advance.ensures,
      c.attempt_lowest.ensures.book.kept,
      c.attempt_lowest.ensures.book.opening ∙ c.settling.invariant.2,
    )

pub returns : goal.returns
returns g c =
    let e = lowest_none g.B.Book.valid g.B.Book.next _ _ _ c.in_default.ensures.answer c.in_default.ensures.book.current in
    let d = along_end g.B.Book.valid g.B.Book.next _ _ _ _ _ c.settling.accounts.rows c.settling.count c.keep.ensures.current c.settling.invariant.0 e.0 e.1 in
    record {
      answer = d.counted;
      book = record {
        current = ap (λ (l : Ledger g.B.Book.State). l.state) d.ends;
        kept = c.attempt_lowest.ensures.book.kept;
        opening = c.attempt_lowest.ensures.book.opening ∙ (c.settling.invariant.2 ∙ c.keep.ensures.opening);
      };
      accounts = ap (λ (l : Ledger g.B.Book.State). l.accounts) d.ends;
      done = d.settled;
    }
