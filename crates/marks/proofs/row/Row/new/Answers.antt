use Rattle.std.proofs.Common.{rules}
use Rattle.marks.proofs.Coming.{filled_all}
use Rattle.marks.proofs.row.Row.new.Goals as goal

pub returns : goal.returns
returns c = (c.if-outcomes-gt64.false, filled_all _ _ c.args.outcomes.now (λ i y q k. (search rules, search rules)) c.from_fn.result 64 c.from_fn.ensures.items c.if-outcomes-gt64.false)
