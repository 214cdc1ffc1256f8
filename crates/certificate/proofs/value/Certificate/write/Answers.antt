use Rattle.std.proofs.Common.{refl}
use Rattle.std.proofs.lemmas.Result.{err_from_is_err_and}
use Rattle.certificate.proofs.Written.{write_count, is_head, head_long, write_by, buffer_same, buffer_written, written_back}
use Rattle.certificate.proofs.value.Certificate.write.Goals as goal

pub returns-then-count-eq0 : goal.returns-then-count-eq0
returns-then-count-eq0 c =
    let a = write_count c.args.boxes c.args.docket.now c.args.signers.now c.args.seals.now c.args.out.now c.then-count-eq0.either in
    record { answer = a; buffer = buffer_same _ _ _ _ _ _ a; back = tt }

pub read_head-requires : goal.read_head-requires
read_head-requires c =
    head_long _ c.args.docket.now c.args.signers.now _ c.head_of-head.ensures.sized (is_head c.args.docket.now c.args.signers.now c.head_of-head.result c.head_of-head.ensures.front)

pub returns-in_err-read_head : goal.returns-in_err-read_head
returns-in_err-read_head c =
    let p = err_from_is_err_and c.from_residual.result c.from_residual.ensures.1 in
    let a = write_by c.args.boxes c.args.docket.now c.args.signers.now c.args.seals.now c.args.out.now _ _ _
    (is_head c.args.docket.now c.args.signers.now c.head_of-head.result c.head_of-head.ensures.front) c.in_err-read_head.ensures refl in
    rw (p.1, p.2) (record { answer = a; buffer = buffer_same _ _ _ _ _ _ a; back = tt })

pub returns-in_err-written : goal.returns-in_err-written
returns-in_err-written c =
    let p = err_from_is_err_and c.from_residual-in_err-written.result c.from_residual-in_err-written.ensures.1 in
    let a = write_by c.args.boxes c.args.docket.now c.args.signers.now c.args.seals.now c.args.out.now _ _ _
    (is_head c.args.docket.now c.args.signers.now c.head_of-head.result c.head_of-head.ensures.front) c.in_ok-read_head.ensures c.in_err-written.ensures.answer in
    rw (p.1, p.2) (record { answer = a; buffer = buffer_same _ _ _ _ _ _ a; back = tt })

pub returns : goal.returns
returns c =
    let e = is_head c.args.docket.now c.args.signers.now c.head_of-head.result c.head_of-head.ensures.front in
    let z = c.head_of-head.ensures.sized in
    let w = c.in_ok-written.ensures in
    let o = c.put_all.ensures in
    let a = write_by c.args.boxes c.args.docket.now c.args.signers.now c.args.seals.now c.args.out.now _ _ _
    e c.in_ok-read_head.ensures w.answer in
    record {
      answer = a;
      buffer = buffer_written _ _ _ _ _ c.args.out.now c.put_all.new.out _ z e w.bounds.0 a o.front o.rest;
      back = written_back _ _ _ _ c.args.seals.now c.put_all.new.out _ _ z e w.bounds.0 c.in_ok-read_head.ensures o.front;
    }
