use Rattle.std.proofs.Common.{◌∙◌, arith}
use Rattle.lms.proofs.Laid.{laid_three, same_three}
use Rattle.lms.proofs.hashes.Node.front.Goals as goal

pub returns : goal.returns
returns c =
    laid_three c.put.new.out c.put-2.new.out c.args.self.now.id.now c.to_be_bytes.result 16 (omega arith) (c.put.ensures.front (omega arith)) (c.put-2.ensures.front (omega arith))
    c.put-3.new.out c.to_be_bytes-2.result 20 (omega arith) (c.put-3.ensures.front (omega arith)) (omega arith)
    ∙ same_three _ _ _ _ _ c.to_be_bytes.ensures c.to_be_bytes-2.ensures
