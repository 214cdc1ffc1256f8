use Rattle.std.proofs.Common.{length, ap, ◌∙◌}
use Rattle.sheet.proofs.Places.{chunks_of, length_records}
use Rattle.sheet.proofs.records.Goals as goal

pub returns : goal.returns
returns c =
    let value = c.as_chunks.ensures.front ∙ chunks_of c.args.count c.end_of.result c.args.bytes.now c.requires c.end_of.ensures in
    record { value = value; len = ap length value ∙ length_records 0 c.args.count c.args.bytes.now }
