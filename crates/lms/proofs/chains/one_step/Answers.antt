use Rattle.std.proofs.Common.{[], ◌∷◌, refl, ap, ◌∙◌, arith}
use Rattle.sha256.specs.Digest.{sha256}
use Rattle.lms.proofs.Laid.{laid_three}
use Rattle.lms.proofs.chains.one_step.Goals as goal

pub returns : goal.returns
returns c =
    c.digest.ensures.value ∙ ap sha256
    (laid_three c.put.new.out c.put-2.new.out c.args.front.now (c.args.j ∷ []) 22 (omega arith) (c.put.ensures.front (omega arith)) (c.put-2.ensures.front (omega arith))
    c.put-3.new.out c.args.value.now 23 refl (c.put-3.ensures.front (omega arith)) (omega arith))
