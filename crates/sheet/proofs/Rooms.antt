-- Space for another record, and the record written there. Assumes nothing.
use Rattle.std.proofs.Common.{◌≡◌, ℕ, suc, ◌+◌, ◌<◌, ◌≤◌, true, false, ltb, List, [], ◌∷◌, ◌++◌, length, take, drop, sym, ap, ◌∙◌, subst, arith}
use borrow.Rule.Slice.PartMut.{put_mid}
use Rattle.std.proofs.lemmas.List.{drop-drop, drop_all, append-nil}
use Rattle.std.proofs.lemmas.Slice.{drop-put_mid}
use Rattle.std.proofs.lemmas.Bool.{lt-leb, le-ltb, cond-false}
use Rattle.docket.specs.declared.Docket.{Docket}
use Rattle.layout.specs.Bytes.{blank}
use Rattle.docket.specs.Layout.{encoded}
use Rattle.docket.specs.Layout as docket
use Rattle.marks.specs.Marks.{well_formed}
use Rattle.sheet.specs.Sheet.{count_of, end_of, record_at, records, keep_last, counted, contents, with_room, rest_clear, SameHead}
use Rattle.marks.specs.Kept.{formed}
use Rattle.sheet.proofs.Blank.{blank_drop}
use Rattle.sheet.proofs.Places.{records_same, records_push, record_put, record_before, head_put}
use Rattle.sheet.proofs.Heads.{count_counted, drop_counted, records_counted, head_counted, head_taken, head_then, front_same, front_records}

-- the four steps of making room: the records are moved together, what follows is cleared, and they are counted
module _ (left : ℕ) (was moved clear now' : List ℕ) (full : length was < end_of (count_of was) + 80) (few : left ≤ 64) (low : 5216 ≤ length now')
    (long : length clear ≡ length now')
    (kept : records 0 left moved ≡ keep_last (contents was)) (front : take (end_of left) clear ≡ take (end_of left) moved) (counts : now' ≡ counted left clear) where
  count_now : count_of now' ≡ left
  count_now = ap count_of counts ∙ count_counted left clear (omega arith)

  pub room_rows : contents now' ≡ with_room was
  room_rows =
      ap (λ k. records 0 k now') count_now
      ∙ (ap (records 0 left) counts
      ∙ (records_counted left clear 0 left
      ∙ (front_records left moved clear front ∙ (kept ∙ sym (cond-false _ (contents was) (keep_last (contents was)) (lt-leb _ _ full))))))

  pub room_space : end_of (count_of now') + 80 ≤ length now'
  room_space = let c = count_now in omega arith

  pub room_head : take 16 moved ≡ take 16 was → SameHead was now'
  room_head h =
      subst (SameHead was) (sym counts)
      (head_then was clear (counted left clear) (head_taken was clear (front_same (end_of left) 16 moved clear (omega arith) front ∙ h)) (head_counted left clear))

  pub room_rest : blank (drop (end_of left) clear) ≡ true → rest_clear now' ≡ true
  room_rest h =
      ap (λ k. blank (drop (end_of k) now')) count_now
      ∙ (ap (λ x. blank (drop (end_of left) x)) counts ∙ (ap blank (drop_counted left clear (end_of left) (omega arith)) ∙ h))

-- a well-formed docket fills the place that it is written to
pub written_is : (d : Docket) (out : List ℕ) → well_formed d ≡ true → length out ≡ 80 → docket.write_buffer d out ≡ encoded d
unfolding docket.write_buffer docket.write_answer
written_is d out w l =
    let f = formed d w in
    let t : ltb (length out) 80 ≡ false = le-ltb _ _ (omega arith) in
    let e : drop 80 out ≡ [] = drop_all 80 out (omega arith) in
    let a = append-nil (encoded d) in
    cc

-- the two steps of a record that is added: it is written after the last one, and counted
module _ (size : ℕ) (was put now' part : List ℕ) (space : end_of (count_of was) + 80 ≤ length was) (long : length part ≡ 80) (eighty : size ≡ 80)
    (puts : put ≡ put_mid (end_of (count_of was)) size was part) (same : length put ≡ length was) (counts : now' ≡ counted (count_of was + 1) put) where
  count_more : count_of now' ≡ count_of was + 1
  count_more = ap count_of counts ∙ count_counted (count_of was + 1) put (omega arith)

  pub more_rows : contents now' ≡ contents was ++ part ∷ []
  more_rows =
      let z : count_of was + 1 ≡ suc (count_of was) = omega arith in
      let w : 0 + count_of was ≡ count_of was = omega arith in
      let before : records 0 (count_of was) put ≡ contents was =
      records_same 0 (count_of was) was put
      (λ k l u. ap (record_at k) puts ∙ record_before (count_of was) size was part space long eighty k (omega arith)) in
      let here : record_at (count_of was) put ≡ part = ap (record_at (count_of was)) puts ∙ record_put (count_of was) size was part space long eighty in
      ap (λ k. records 0 k now') (count_more ∙ z)
      ∙ (ap (records 0 (suc (count_of was))) counts
      ∙ (records_counted (count_of was + 1) put 0 (suc (count_of was))
      ∙ (records_push 0 (count_of was) put
      ∙ (ap (λ k. records 0 (count_of was) put ++ record_at k put ∷ []) w
      ∙ (ap (λ rs. rs ++ record_at (count_of was) put ∷ []) before ∙ ap (λ r. contents was ++ r ∷ []) here)))))

  pub more_space : end_of (count_of now') ≤ length was
  more_space = let c = count_more in omega arith

  pub more_head : SameHead was now'
  more_head =
      subst (SameHead was) (sym counts)
      (head_then was put (counted (count_of was + 1) put) (head_taken was put (ap (take 16) puts ∙ head_put (count_of was) size was part space long eighty)) (head_counted (count_of was + 1) put))

  pub more_rest : rest_clear was ≡ true → rest_clear now' ≡ true
  more_rest h =
      let e : end_of (count_of was + 1) ≡ end_of (count_of was) + 80 = omega arith in
      let p : drop (end_of (count_of was + 1)) put ≡ drop (end_of (count_of was + 1)) was =
      ap (drop (end_of (count_of was + 1))) puts ∙ drop-put_mid (end_of (count_of was)) size was part (end_of (count_of was + 1)) (omega arith) (omega arith) (omega arith) in
      let q : drop (end_of (count_of was + 1)) was ≡ drop 80 (drop (end_of (count_of was)) was) =
      ap (λ k. drop k was) e ∙ sym (drop-drop 80 (end_of (count_of was)) was) in
      ap (λ k. blank (drop (end_of k) now')) count_more
      ∙ (ap (λ x. blank (drop (end_of (count_of was + 1)) x)) counts
      ∙ (ap blank (drop_counted (count_of was + 1) put (end_of (count_of was + 1)) (omega arith))
      ∙ (ap blank (p ∙ q) ∙ blank_drop 80 (drop (end_of (count_of was)) was) h)))
