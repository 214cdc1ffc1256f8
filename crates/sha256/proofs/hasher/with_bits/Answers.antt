use Rattle.std.proofs.Common.{◌∙◌, arith}
use Rattle.sha256.proofs.Puts.{put_to_end}
use Rattle.sha256.proofs.hasher.with_bits.Goals as goal

pub returns : goal.returns
returns c = put_to_end 56 8 c.args.block _ _ (omega arith) (c.copy_from_slice.ensures.after ∙ c.to_be_bytes.ensures)
