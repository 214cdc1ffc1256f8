use Rattle.std.proofs.Common.{◌≡◌, length, ◌∙◌, rules}
use Rattle.std.proofs.lemmas.List.{take_at}
use Rattle.docket.proofs.Answered.{write_wrong, write_short, write_fits, buffer_same, buffer_written}
use Rattle.docket.proofs.RoundTrip.{reads}
use Rattle.docket.proofs.Docket.write.Goals as goal

pub returns-in-Some : goal.returns-in-Some
returns-in-Some c =
    let a = write_wrong c.args.self.now c.args.out.now c.in-Some.place c.in-Some.ensures in
    record { answer = a; buffer = buffer_same _ _ _ a; back = tt }

pub returns-in_default-first_chunk_mut : goal.returns-in_default-first_chunk_mut
returns-in_default-first_chunk_mut c =
    let a = write_short c.args.self.now c.args.out.now c.in_default.ensures c.in_default-first_chunk_mut.ensures.cases in
    record { answer = a; buffer = buffer_same _ _ _ a; back = tt }

pub returns : goal.returns
returns c =
    let a = write_fits c.args.self.now c.args.out.now c.in_default.ensures c.in-Some-first_chunk_mut.ensures.cases.enough in
    let l : length c.to_bytes.result ≡ 80 = search rules in
    record {
      answer = a;
      buffer = buffer_written _ _ _ a c.to_bytes.ensures.value;
      back = reads _ _ _ c.to_bytes.ensures.sized c.in_default.ensures c.to_bytes.ensures.value l (take_at c.to_bytes.result _ 80 l ∙ c.to_bytes.ensures.value);
    }
