use Rattle.std.proofs.Common.{arith}
use Rattle.lms.proofs.Judged.{key_found}
use Rattle.lms.proofs.keys.key_of.Goals as goal

pub returns : goal.returns
returns c = key_found c.args.keys.now c.args.party c.from.result c.as_chunks.result.0.now c.get.result c.from.ensures (omega arith) c.as_chunks.ensures.front c.as_chunks.ensures.front_len c.get.ensures.lookup
