-- Records by their places, and the last one of an account. Assumes nothing.
use Rattle.std.proofs.Common.{◌≡◌, ℕ, zero, suc, ◌+◌, ◌-◌, ◌*◌, ◌/◌, ◌<◌, ◌≤◌, ◌&&◌, is_ok, List, [], ◌∷◌, ◌++◌, length, get_or, take, drop, reverse, Some, None, Option, sym, refl, ap, ◌∙◌, inl, inr, arith}
use Rattle.std.specs.Option.{option_or}
use borrow.Rule.Slice.PartMut.{put_mid}
use Rattle.std.proofs.lemmas.Slice.{between_is, between-put_mid, take-put_mid_below, drop-put_mid}
use Rattle.std.proofs.lemmas.Bool.{cases_order}
use Rattle.std.specs.Simd.{first_chunks}
use Rattle.std.specs.List.{between, list_all, copy_within}
use lib.Seq.{paste}
use Rattle.std.proofs.lemmas.List.Edits.{length-between}
use Rattle.std.proofs.lemmas.List.{reverse-append, drop-drop, take-take, take_all, length-drop, append_assoc}
use Rattle.docket.specs.declared.Docket.{Docket}
use Rattle.docket.specs.Layout.{read_docket}
use Rattle.sheet.specs.Sheet.{end_of, record_at, records, of_account, last_of, stays_by, all_read}
use Rattle.sheet.proofs.Found.{first_of, first_append}

pub records_none : (i n : ℕ) (bs : List ℕ) → n ≤ i → records i (n - i) bs ≡ []
unfolding records
records_none i n bs h = let z : n - i ≡ 0 = omega arith in ap (λ k. records i k bs) z

pub records_more : (i n : ℕ) (bs : List ℕ) → i < n → records i (n - i) bs ≡ record_at i bs ∷ records (i + 1) (n - (i + 1)) bs
unfolding records
records_more i n bs h = let z : n - i ≡ suc (n - (i + 1)) = omega arith in ap (λ k. records i k bs) z

pub records_push : (i n : ℕ) (bs : List ℕ) → records i (suc n) bs ≡ records i n bs ++ record_at (i + n) bs ∷ []
unfolding records
records_push i zero bs = let z : i ≡ i + 0 = omega arith in ap (λ k. record_at k bs ∷ []) z
records_push i (suc n) bs =
    let z : (i + 1) + n ≡ i + suc n = omega arith in
    ap (λ rs. record_at i bs ∷ rs) (records_push (i + 1) n bs ∙ ap (λ k. records (i + 1) n bs ++ record_at k bs ∷ []) z)

pub length_records : (i n : ℕ) (bs : List ℕ) → length (records i n bs) ≡ n
unfolding records
length_records i zero bs = refl
length_records i (suc n) bs = ap suc (length_records (i + 1) n bs)

-- one of them, and those that follow it
pub records_at : (i n k : ℕ) (bs : List ℕ) → k < n → get_or (records i n bs) k [] ≡ record_at (i + k) bs
unfolding records
records_at i zero k bs h = absurd (omega arith)
records_at i (suc n) zero bs h = let z : i ≡ i + 0 = omega arith in ap (λ j. record_at j bs) z
records_at i (suc n) (suc k) bs h = let z : (i + 1) + k ≡ i + suc k = omega arith in records_at (i + 1) n k bs (omega arith) ∙ ap (λ j. record_at j bs) z

pub records_from : (i n k : ℕ) (bs : List ℕ) → k ≤ n → drop k (records i n bs) ≡ records (i + k) (n - k) bs
unfolding records
records_from i n zero bs h =
    let z : i ≡ i + 0 = omega arith in
    let w : n ≡ n - 0 = omega arith in
    ap (λ j. records j n bs) z ∙ ap (λ m. records (i + 0) m bs) w
records_from i zero (suc k) bs h = absurd (omega arith)
records_from i (suc n) (suc k) bs h =
    let z : (i + 1) + k ≡ i + suc k = omega arith in
    let w : n - k ≡ suc n - suc k = omega arith in
    records_from (i + 1) n k bs (omega arith) ∙ (ap (λ j. records j (n - k) bs) z ∙ ap (λ m. records (i + suc k) m bs) w)

-- the pieces of 80 bytes that are those records
pub chunks_are : (n i : ℕ) (xs bs : List ℕ) → ((k : ℕ) → k < n → take 80 (drop (80 * k) xs) ≡ record_at (i + k) bs) → first_chunks 80 n xs ≡ records i n bs
unfolding records
chunks_are zero i xs bs h = refl
chunks_are (suc n) i xs bs h =
    let z : i + 0 ≡ i = omega arith in
    let here : take 80 xs ≡ record_at i bs = h 0 (omega arith) ∙ ap (λ j. record_at j bs) z in
    let rest : first_chunks 80 n (drop 80 xs) ≡ records (i + 1) n bs = chunks_are n (i + 1) (drop 80 xs) bs
    (λ k l.
    let a : 80 + 80 * k ≡ 80 * suc k = omega arith in
    let b : i + suc k ≡ (i + 1) + k = omega arith in
    ap (take 80) (drop-drop (80 * k) 80 xs ∙ ap (λ j. drop j xs) a) ∙ (h (suc k) (omega arith) ∙ ap (λ j. record_at j bs) b)) in
    cc

pub piece : (n k : ℕ) (bs : List ℕ) → k < n → take 80 (drop (80 * k) (between 16 (end_of n) bs)) ≡ record_at k bs
piece n k bs h =
    let d : drop (80 * k) (between 16 (end_of n) bs) ≡ drop (end_of k) (take (end_of n) bs) =
    ap (drop (80 * k)) (between_is bs 16 (end_of n)) ∙ drop-drop (80 * k) 16 (take (end_of n) bs) in
    let w : 80 ≡ (end_of k + 80) - end_of k = omega arith in
    ap (take 80) d
    ∙ (ap (λ m. take m (drop (end_of k) (take (end_of n) bs))) w
    ∙ (between_is (take (end_of n) bs) (end_of k) (end_of k + 80)
    ∙ (ap (drop (end_of k)) (take-take (end_of k + 80) (end_of n) bs (omega arith)) ∙ sym (between_is bs (end_of k) (end_of k + 80)))))

pub chunks_of : (n m : ℕ) (bs : List ℕ) → end_of n ≤ length bs → m ≡ end_of n → first_chunks 80 (length (between 16 m bs) / 80) (between 16 m bs) ≡ records 0 n bs
chunks_of n m bs h e =
    let l : length (between 16 m bs) ≡ m - 16 = length-between bs 16 m (omega arith) in
    let q : length (between 16 m bs) / 80 ≡ n = omega arith in
    ap (λ j. first_chunks 80 j (between 16 m bs)) q
    ∙ (ap (λ j. first_chunks 80 n (between 16 j bs)) e
    ∙ chunks_are n 0 (between 16 (end_of n) bs) bs (λ k b. let z : k ≡ 0 + k = omega arith in piece n k bs b ∙ ap (λ j. record_at j bs) z))

-- a record that is copied to another place
pub copied : (bs : List ℕ) (from to i j at : ℕ) → i ≡ end_of from → j ≡ end_of (from + 1) → at ≡ end_of to → copy_within bs i j at ≡ put_mid (end_of to) 80 bs (record_at from bs)
copied bs from to i j at e f g =
    let n : j - i ≡ 80 = omega arith in
    let m : 80 ≡ (end_of from + 80) - end_of from = omega arith in
    ap (λ k. paste bs k (drop i bs) (j - i)) g
    ∙ (ap (λ k. paste bs (end_of to) (drop k bs) (j - i)) e
    ∙ (ap (λ k. paste bs (end_of to) (drop (end_of from) bs) k) n
    ∙ (append_assoc (take (end_of to) bs) (take 80 (drop (end_of from) bs)) (drop (end_of to + 80) bs)
    ∙ (ap (λ z. take (end_of to) bs ++ (take 80 (drop (end_of from) bs) ++ z)) (sym (drop-drop 80 (end_of to) bs))
    ∙ ap (λ k. put_mid (end_of to) 80 bs (take k (drop (end_of from) bs))) m))))

pub length_record : (i : ℕ) (bs : List ℕ) → end_of i + 80 ≤ length bs → length (record_at i bs) ≡ 80
length_record i bs h = let l = length-between bs (end_of i) (end_of i + 80) h in omega arith

-- whether the i-th of the first records stays, as it is asked of their list
pub stays_at :
    (i n : ℕ) (bs : List ℕ) (rs : List (List ℕ)) → rs ≡ records 0 n bs → i < n
    → stays_by (read_docket (get_or rs i [])) (take (length rs - (i + 1)) (drop (i + 1) rs)) ≡ stays_by (read_docket (record_at i bs)) (records (i + 1) (n - (i + 1)) bs)
stays_at i n bs rs e h =
    let z : 0 + i ≡ i = omega arith in
    let w : 0 + (i + 1) ≡ i + 1 = omega arith in
    let a : get_or rs i [] ≡ record_at i bs = ap (λ r. get_or r i []) e ∙ (records_at 0 n i bs h ∙ ap (λ j. record_at j bs) z) in
    let b : drop (i + 1) rs ≡ records (i + 1) (n - (i + 1)) bs =
    ap (drop (i + 1)) e ∙ (records_from 0 n (i + 1) bs (omega arith) ∙ ap (λ j. records j (n - (i + 1)) bs) w) in
    let c : take (length rs - (i + 1)) (drop (i + 1) rs) ≡ drop (i + 1) rs = take_all (length rs - (i + 1)) (drop (i + 1) rs) (omega (arith, length-drop (i + 1) rs)) in
    ap (λ x. stays_by (read_docket x) (take (length rs - (i + 1)) (drop (i + 1) rs))) a ∙ ap (stays_by (read_docket (record_at i bs))) (c ∙ b)

-- every record is a docket
pub all_read_is : (rs : List (List ℕ)) → list_all (λ r. is_ok (read_docket r)) rs ≡ all_read rs
all_read_is [] = refl
all_read_is (r ∷ rs) = ap (λ b. is_ok (read_docket r) && b) (all_read_is rs)

-- bytes with the same records at those places
pub records_same : (i n : ℕ) (bs cs : List ℕ) → ((k : ℕ) → i ≤ k → k < i + n → record_at k cs ≡ record_at k bs) → records i n cs ≡ records i n bs
unfolding records
records_same i zero bs cs h = refl
records_same i (suc n) bs cs h =
    let e : record_at i cs ≡ record_at i bs = h i (omega arith) (omega arith) in
    let f : records (i + 1) n cs ≡ records (i + 1) n bs = records_same (i + 1) n bs cs (λ k l u. h k (omega arith) (omega arith)) in
    cc

pub or_none : (x : Option Docket) → option_or x None ≡ x
or_none None = refl
or_none (Some d) = refl

-- the last record of an account is the first from the end
pub first_reverse : (a : ℕ) (rs : List (List ℕ)) → first_of (λ r. of_account a (read_docket r)) (reverse rs) ≡ last_of a rs
first_reverse a [] = refl
first_reverse a (r ∷ rs) =
    let h = (λ (x : List ℕ). of_account a (read_docket x)) in
    ap (first_of h) (reverse-append (r ∷ []) rs) ∙ (first_append h (reverse rs) (r ∷ [])
    ∙ (ap (λ o. option_or o (option_or (h r) None)) (first_reverse a rs) ∙ ap (option_or (last_of a rs)) (or_none (h r))))

-- a write to the place of one record leaves the others
module _ (to n : ℕ) (xs ys : List ℕ) (within : end_of to + 80 ≤ length xs) (long : length ys ≡ 80) (size : n ≡ 80) where
  pub record_put : record_at to (put_mid (end_of to) n xs ys) ≡ ys
  record_put = between-put_mid (end_of to) n xs ys (end_of to + 80) (omega arith) (omega arith)

  pub record_before : (k : ℕ) → k < to → record_at k (put_mid (end_of to) n xs ys) ≡ record_at k xs
  record_before k h =
      between_is _ (end_of k) (end_of k + 80)
      ∙ (ap (drop (end_of k)) (take-put_mid_below (end_of to) n xs ys (end_of k + 80) (omega arith) (omega arith)) ∙ sym (between_is xs (end_of k) (end_of k + 80)))

  pub record_after : (k : ℕ) → to < k → record_at k (put_mid (end_of to) n xs ys) ≡ record_at k xs
  record_after k h = ap (take ((end_of k + 80) - end_of k)) (drop-put_mid (end_of to) n xs ys (end_of k) (omega arith) (omega arith) (omega arith))

  pub record_other : (k : ℕ) → (k ≡ to → ⊥) → record_at k (put_mid (end_of to) n xs ys) ≡ record_at k xs
  record_other k ne =
      elim (cases_order k to) [
        | inl e ↦ absurd (ne e)
        | inr o ↦ elim o [ inl less ↦ record_before k less | inr more ↦ record_after k more ]
      ]

  pub head_put : take 16 (put_mid (end_of to) n xs ys) ≡ take 16 xs
  head_put = take-put_mid_below (end_of to) n xs ys 16 (omega arith) (omega arith)
