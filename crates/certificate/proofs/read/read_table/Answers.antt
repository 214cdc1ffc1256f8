use Rattle.std.proofs.Common.{◌∙◌, arith}
use Rattle.std.proofs.lemmas.List.{length-set}
use Rattle.std.proofs.lemmas.Result.{err_from_is_err_and}
use Rattle.certificate.proofs.Rows.{row_at, rows_more, rows_stop, end_more}
use Rattle.certificate.proofs.read.read_table.Goals as goal

pub returns-in_err-entry : goal.returns-in_err-entry
returns-in_err-entry c =
    let h = rw (row_at c.args.count c.loop-i.i c.args.head.now _ (omega arith) c.requires.1 c.as_chunks.ensures.front) at c.in_err-entry.ensures in
    let p = err_from_is_err_and c.from_residual.result c.from_residual.ensures.1 in
    rw (p.1, p.2) (record { entries = rows_stop _ _ c.loop-i.i _ c.loop-i.place _ c.loop-i.table _ _ (omega arith) c.loop-i.invariant.3 h; end = tt })

pub loop-i-preserved : goal.loop-i-preserved
loop-i-preserved c =
    let p = c.next_place-place.ensures in
    let good = rw (row_at c.args.count c.loop-i.i c.args.head.now _ (omega arith) c.requires.1 c.as_chunks.ensures.front) at c.in_ok-entry.ensures in (
      length-set c.loop-i.table c.loop-i.i _ ∙ c.loop-i.invariant.0,
      omega (arith, p.bound),
      end_more _ c.loop-i.place _ c.loop-i.i c.loop-i.table _ (omega arith) p.value c.loop-i.invariant.2,
      rows_more _ _ c.loop-i.i _ c.loop-i.place _ _ _ c.loop-i.table _ _ (omega arith) (omega arith) c.next_number-least.ensures p.value c.loop-i.invariant.3 good,
    )
