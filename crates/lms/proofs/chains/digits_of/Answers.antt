use Rattle.std.proofs.Common.{◌++◌, ap, ◌∙◌, arith}
use Rattle.lms.specs.Hashes.{u16}
use Rattle.lms.proofs.Laid.{laid_two}
use Rattle.lms.proofs.chains.digits_of.Goals as goal

pub returns : goal.returns
returns c =
    laid_two c.put.new.out c.put-2.new.out c.args.hash.now c.to_be_bytes.result 32 (omega arith) (c.put.ensures.front (omega arith)) (c.put-2.ensures.front (omega arith)) (omega arith)
    ∙ ap (λ l. c.args.hash.now ++ l) (c.to_be_bytes.ensures ∙ ap u16 c.checksum_of.ensures)
