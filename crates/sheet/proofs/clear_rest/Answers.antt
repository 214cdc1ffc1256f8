use Rattle.std.proofs.Common.{◌≡◌, ◌-◌, length, drop, replicate, sym, ap, ◌∙◌, arith, rules}
use borrow.Rule.Slice.PartMut.{put_mid}
use Rattle.std.proofs.lemmas.Slice.{take-put_mid_below}
use Rattle.layout.specs.Bytes.{blank}
use Rattle.sheet.specs.Sheet.{end_of}
use Rattle.sheet.proofs.Blank.{rest_put, blank_filled}
use Rattle.sheet.proofs.clear_rest.Goals as goal

pub returns : goal.returns
returns c =
    let n = c.end_of.result in
    let e : n ≡ end_of c.args.count = c.end_of.ensures in
    let bs = c.args.bytes.now in
    let long : length c.fill.new.self ≡ length bs - n = search rules in
    record {
      front = take-put_mid_below n (length bs - n) bs c.fill.new.self (end_of c.args.count) (omega arith) (omega arith);
      rest = ap (λ k. blank (drop k (put_mid n (length bs - n) bs c.fill.new.self))) (sym e) ∙ (ap blank (rest_put n bs c.fill.new.self (omega arith) long) ∙ blank_filled (length c.fill.new.self) c.fill.new.self
          (c.fill.ensures.after (λ y e. e) ∙ ap (λ k. replicate k 0) (sym c.fill.ensures.len)));
    }
