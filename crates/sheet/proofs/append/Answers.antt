use Rattle.std.proofs.Common.{◌≡◌, ℕ, ◌+◌, ◌-◌, ◌≤◌, true, [], ◌∷◌, ◌++◌, length, take, is_ok, Ok, sym, ap, ◌∙◌, subst, arith, rules}
use borrow.Rule.Slice.PartMut.{put_mid}
use Rattle.std.specs.List.{between}
use Rattle.std.proofs.lemmas.List.{take_all}
use Rattle.docket.specs.Layout.{encoded, read_docket}
use Rattle.sheet.specs.Sheet.{count_of, end_of, counted, contents}
use Rattle.marks.proofs.Kept.{formed_answer, made_ok}
use Rattle.sheet.proofs.Rooms.{written_is, more_rows, more_space, more_head, more_rest}
use Rattle.sheet.proofs.append.Goals as goal

pub returns : goal.returns
returns c =
    let was = c.args.bytes.now in
    let d = c.args.docket.now in
    let n = count_of was in
    let part = c.write.new.out in
    let end = c.set_count.new.bytes in
    let at = c.end_of-at.result in
    let put = put_mid at ((at + 80) - at) was part in
    let w = c.requires.0 in
    let space : end_of n + 80 ≤ length was = c.requires.1.0 in
    let long : length part ≡ 80 = search rules in
    let lent : length (between at (at + 80) was) ≡ 80 = search rules in
    let same : length put ≡ length was = search rules in
    let kept : length end ≡ length was = search rules in
    let size : ℕ = (end_of n + 80) - end_of n in
    let eighty : size ≡ 80 = omega arith in
    let puts : put ≡ put_mid (end_of n) size was part = ap (λ k. put_mid k ((k + 80) - k) was part) (c.end_of-at.ensures ∙ ap end_of c.count-count.ensures) in
    let counts : end ≡ counted (n + 1) put = c.set_count.ensures ∙ ap (λ k. counted (k + 1) put) c.count-count.ensures in
    let is : part ≡ encoded d = c.write.ensures.buffer ∙ written_is d _ w lent in
    let ok : is_ok c.write.result ≡ true = formed_answer d _ c.write.result lent c.write.ensures.answer ∙ w in
    let whole : take 80 part ≡ encoded d = take_all 80 part (omega (arith, long)) ∙ is in
    record {
      stood = c.is_ok-stood.ensures.value ∙ ok;
      rows = more_rows size was put end part space long eighty puts same counts ∙ ap (λ r. contents was ++ r ∷ []) is;
      space = subst (λ k. end_of (count_of end) ≤ k) (sym kept) (more_space size was put end part space long eighty puts same counts);
      head = more_head size was put end part space long eighty puts same counts;
      rest = more_rest size was put end part space long eighty puts same counts;
      back = ap read_docket (sym whole) ∙ made_ok (read_docket (take 80 part) ≡ Ok d) c.write.result ok c.write.ensures.back;
    }
