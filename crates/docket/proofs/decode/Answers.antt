use Rattle.std.proofs.Common.{◌≡◌, length, rules}
use Rattle.docket.proofs.RoundTrip.{decoded_by}
use Rattle.docket.proofs.decode.Goals as goal

pub returns : goal.returns
returns c =
    let l : length c.args.bytes.now ≡ 80 = search rules in
    decoded_by c.args.bytes.now _ _ _ l c.as_chunks.ensures.front c.from_be_bytes.ensures c.from_be_bytes-2.ensures
