use Rattle.std.proofs.Common.{◌∙◌}
use Rattle.accident.proofs.Certificates.{buffer_kept}
use Rattle.accident.proofs.certify.Goals as goal

pub returns-in_default-clause-unchanged : goal.returns-in_default-clause-unchanged
returns-in_default-clause-unchanged c = c.write.ensures.buffer ∙ buffer_kept _ _ _ _ _ _ c.in_default.ensures.answer
