use Rattle.std.proofs.Common.{◌≡◌, length, ap, arith, rules}
use Rattle.certificate.proofs.Written.{rows_put, rows_done}
use Rattle.certificate.proofs.write.put_rows.Goals as goal

pub loop-i-preserved : goal.loop-i-preserved
loop-i-preserved c =
    let p = c.next_place-place.ensures in
    let room : length c.loop-i.head ≡ 188 = search rules in
    let l : length c.row_of.result ≡ 8 = ap length c.row_of.ensures in (
      omega (arith, p.bound),
      rows_put c.loop-i.i c.loop-i.place _ c.loop-i.head c.put.new.out _ _ c.args.signers.now _ (omega arith) p.value c.loop-i.invariant.1 c.row_of.ensures (c.put.ensures.front (omega arith)),
    )

pub returns : goal.returns
returns c = rows_done c.loop-i.i c.loop-i.place c.loop-i.head _ c.args.signers.now (omega arith) c.loop-i.invariant.1
