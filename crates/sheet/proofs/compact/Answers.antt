use Rattle.std.proofs.Common.{◌∙◌, arith}
use Rattle.sheet.proofs.Keeping.{keeps_none, keeps_more, keeps_less, keep_all}
use Rattle.sheet.specs.Sheet.{records}
use Rattle.sheet.proofs.Places.{stays_at}
use Rattle.sheet.proofs.Few.{few_left}
use Rattle.sheet.proofs.compact.Goals as goal
use Rattle.sheet.proofs.compact.Goals.{then-stays, else-stays}

pub loop-i-init : goal.loop-i-init
loop-i-init c = keeps_none c.args.count c.args.bytes.now

pub loop-i-preserved : goal.loop-i-preserved
loop-i-preserved c =
    elim c.if-stays.branch [
      | then-stays w ↦
          keeps_more c.args.count c.loop-i.i c.loop-i.place _ _ c.loop-i.bytes _ _ c.loop-i.invariant (omega arith)
          (w.if-stays.ensures ∙ stays_at c.loop-i.i c.args.count c.loop-i.bytes c.records-records.result.now c.records-records.ensures.value (omega arith))
          w.copy_record.ensures.record w.copy_record.ensures.others w.copy_record.ensures.head w.bytes-is w.place-is
      | else-stays w ↦
          keeps_less c.args.count c.loop-i.i c.loop-i.place _ _ c.loop-i.bytes _ c.loop-i.invariant (omega arith)
          (w.if-stays.ensures ∙ stays_at c.loop-i.i c.args.count c.loop-i.bytes c.records-records.result.now c.records-records.ensures.value (omega arith))
          w.bytes-is w.place-is
    ]

pub returns-clause-left : goal.returns-clause-left
returns-clause-left c = keep_all c.loop-i.i c.args.count c.loop-i.place c.loop-i.bytes _ (omega arith) c.loop-i.invariant.0

pub returns-clause-few : goal.returns-clause-few
returns-clause-few c =
    few_left c.loop-i.place c.loop-i.bytes (records 0 c.args.count c.args.bytes.now) (keep_all c.loop-i.i c.args.count c.loop-i.place c.loop-i.bytes _ (omega arith) c.loop-i.invariant.0)
