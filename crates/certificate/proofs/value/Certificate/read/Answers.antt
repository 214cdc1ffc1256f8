use Rattle.std.proofs.Common.{◌≡◌, ◌∙◌}
use Rattle.certificate.specs.Layout.{seen, read_certificate}
use Rattle.certificate.proofs.Head.{head_fits, head_read}
use Rattle.certificate.proofs.RoundTrip.{answer_same, answer_accepted}
use Rattle.certificate.proofs.value.Certificate.read.Goals as goal

pub read_head-requires : goal.read_head-requires
read_head-requires c = head_fits _ c.args.bytes.now c.head_end.ensures

answered : (c : goal.After-read_head) → seen c.read_head.result ≡ read_certificate c.args.boxes c.args.bytes.now
answered c = c.read_head.ensures ∙ head_read c.args.boxes _ c.args.bytes.now c.head_end.ensures

pub returns : goal.returns
returns c =
    record {
      answer = answered c;
      accepted = answer_accepted c.args.boxes c.args.bytes.now c.read_head.result (answered c);
      same = answer_same c.args.boxes c.args.bytes.now c.read_head.result (λ i. (c.type_inv.bytes i).fits) (answered c);
    }
