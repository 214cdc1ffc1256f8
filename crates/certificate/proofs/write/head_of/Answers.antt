use Rattle.std.proofs.Common.{◌≡◌, length, rules}
use Rattle.certificate.proofs.Written.{head_made}
use Rattle.certificate.proofs.write.head_of.Goals as goal

pub returns : goal.returns
returns c =
    let l : length c.to_bytes.result ≡ 80 = search rules in
    record {
      front = head_made c.args.docket.now c.args.signers.now c.put.new.out c.put_rows.new.head c.put-2.new.out _
          (c.put.ensures.front (search rules)) c.put_rows.ensures (c.put-2.ensures.front (search rules)) c.to_bytes.ensures.value l;
      sized = c.to_bytes.ensures.sized;
    }
