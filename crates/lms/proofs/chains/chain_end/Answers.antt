use Rattle.std.proofs.Common.{sym, ◌∙◌, arith}
use Rattle.lms.proofs.Steps.{steps_more, steps_none}
use Rattle.lms.proofs.chains.chain_end.Goals as goal

pub loop-j-preserved : goal.loop-j-preserved
loop-j-preserved c =
    (omega arith, rw c.one_step-value.ensures (steps_more _ _ _ (omega arith) ∙ c.loop-j.invariant.1))

pub returns : goal.returns
returns c = sym (steps_none _ _ _ (omega arith)) ∙ c.loop-j.invariant.1
