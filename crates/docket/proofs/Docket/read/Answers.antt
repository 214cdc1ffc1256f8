use Rattle.std.proofs.Common.{Some, None}
use Rattle.docket.proofs.Answered.{read_by_place, read_wrong_length}
use Rattle.docket.proofs.RoundTrip.{read_same}
use Rattle.docket.proofs.Docket.read.Goals as goal

pub returns-in_default-clause-answer : goal.returns-in_default-clause-answer
returns-in_default-clause-answer c = read_wrong_length c.args.bytes.now c.in_default.ensures.cases

pub returns-in-Some-wrong_place-clause-answer : goal.returns-in-Some-wrong_place-clause-answer
returns-in-Some-wrong_place-clause-answer c =
    let whole = c.in-Some.ensures.cases in
    read_by_place c.args.bytes.now c.decode-docket.result c.is_blank.result (Some c.in-Some-wrong_place.place)
    whole.long (rw whole.same at c.decode-docket.ensures) (rw whole.same at c.is_blank.ensures) c.in-Some-wrong_place.ensures

pub returns-in-None : goal.returns-in-None
returns-in-None c =
    let whole = c.in-Some.ensures.cases in
    let d = rw whole.same at c.decode-docket.ensures in
    let clear = rw whole.same at c.is_blank.ensures in
    record {
      answer = read_by_place c.args.bytes.now c.decode-docket.result c.is_blank.result None whole.long d clear c.in-None.ensures;
      same = read_same c.args.bytes.now c.decode-docket.result c.is_blank.result (λ i. (c.type_inv.bytes i).fits) whole.long d clear c.in-None.ensures;
    }
