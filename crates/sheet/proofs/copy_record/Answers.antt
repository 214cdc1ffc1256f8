use Rattle.std.proofs.Common.{◌≡◌, ◌+◌, ◌≤◌, length, take, ap, ◌∙◌, arith, rules}
use Rattle.sheet.specs.Sheet.{end_of, record_at}
use Rattle.sheet.proofs.Places.{copied, length_record, record_put, record_other, head_put}
use Rattle.sheet.proofs.copy_record.Goals as goal

pub returns : goal.returns
returns c =
    let bs = c.args.bytes.now in
    let to = c.args.to in
    let part = record_at c.args.from bs in
    let is = c.copy_within.ensures.after ∙ copied bs c.args.from to _ _ _ c.end_of.ensures c.end_of-2.ensures c.end_of-3.ensures in
    let within : end_of to + 80 ≤ length bs = search rules in
    let long : length part ≡ 80 = length_record c.args.from bs (omega arith) in
    record {
      «record» = ap (record_at to) is ∙ record_put to 80 bs part within long (omega arith);
      others = λ k ne. ap (record_at k) is ∙ record_other to 80 bs part within long (omega arith) k ne;
      head = ap (take 16) is ∙ head_put to 80 bs part within long (omega arith);
    }
