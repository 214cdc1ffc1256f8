-- The head of a sheet, and what another count or another end leaves of it and of the records. Assumes nothing.
use Rattle.std.proofs.Common.{◌≡◌, ℕ, ◌+◌, ◌-◌, ◌/◌, ◌%◌, ◌<◌, ◌≤◌, true, ◌&&◌, eqb, leb, List, length, get_or, take, drop, set, sym, ap, ◌∙◌, arith}
use Rattle.std.specs.List.{between}
use Rattle.std.proofs.lemmas.List.{length-set, get_or-set_same, get_or-set_other, get_or-take, drop-set-lt, take-take}
use Rattle.std.proofs.lemmas.Slice.{between_is}
use Rattle.std.proofs.lemmas.Bool.{and_parts, and_from, leb-true, le-leb}
use Rattle.layout.specs.Bytes.{blank}
use Rattle.sheet.specs.Sheet.{count_of, end_of, fit, records, counted, SameHead}
use Rattle.sheet.proofs.Places.{records_same}

pub record Fits (bs : List ℕ) : Type 0 where
  pub low : 5216 ≤ length bs
  pub high : length bs ≤ 65536
  pub space : end_of (count_of bs) ≤ length bs

pub fits : (bs : List ℕ) → fit bs ≡ true → Fits bs
fits bs h =
    let p = and_parts (leb 5216 (length bs) && leb (length bs) 65536) (leb (end_of (count_of bs)) (length bs)) h in
    let q = and_parts (leb 5216 (length bs)) (leb (length bs) 65536) p.0 in
    record { low = leb-true _ _ q.0; high = leb-true _ _ q.1; space = leb-true _ _ p.1 }

pub fits_from : (bs : List ℕ) → 5216 ≤ length bs → length bs ≤ 65536 → end_of (count_of bs) ≤ length bs → fit bs ≡ true
fits_from bs l h s = and_from _ _ (and_from _ _ (le-leb _ _ l) (le-leb _ _ h)) (le-leb _ _ s)

module _ (n : ℕ) (bs : List ℕ) where
  pub count_counted : 16 ≤ length bs → count_of (counted n bs) ≡ n
  count_counted l =
      let m = length-set bs 2 (n / 256) in
      let high : get_or (counted n bs) 2 0 ≡ n / 256 = get_or-set_other (set bs 2 (n / 256)) 3 2 (n % 256) 0 (λ e. omega arith) ∙ get_or-set_same bs 2 (n / 256) 0 (omega arith) in
      let low : get_or (counted n bs) 3 0 ≡ n % 256 = get_or-set_same (set bs 2 (n / 256)) 3 (n % 256) 0 (omega arith) in
      omega arith

  pub drop_counted : (k : ℕ) → 4 ≤ k → drop k (counted n bs) ≡ drop k bs
  drop_counted k h = drop-set-lt k (set bs 2 (n / 256)) 3 (n % 256) (omega arith) ∙ drop-set-lt k bs 2 (n / 256) (omega arith)

  pub records_counted : (i m : ℕ) → records i m (counted n bs) ≡ records i m bs
  records_counted i m = records_same i m bs (counted n bs) (λ k l u. ap (take ((end_of k + 80) - end_of k)) (drop_counted (end_of k) (omega arith)))

  pub head_counted : SameHead bs (counted n bs)
  head_counted =
      let other : (i : ℕ) → i < 2 → get_or (counted n bs) i 0 ≡ get_or bs i 0 =
      λ i h. get_or-set_other (set bs 2 (n / 256)) 3 i (n % 256) 0 (λ e. omega arith) ∙ get_or-set_other bs 2 i (n / 256) 0 (λ e. omega arith) in
      let one = other 1 (omega arith) in
      let twelve = drop_counted 4 (omega arith) in
      (other 0 (omega arith), ap (λ x. eqb x 0 && blank (between 4 16 (counted n bs))) one ∙ ap (λ x. eqb (get_or bs 1 0) 0 && blank (take 12 x)) twelve)

pub head_taken : (bs cs : List ℕ) → take 16 cs ≡ take 16 bs → SameHead bs cs
head_taken bs cs e =
    let at : (i : ℕ) → i < 16 → get_or cs i 0 ≡ get_or bs i 0 = λ i h. sym (get_or-take 16 cs i 0 h) ∙ (ap (λ x. get_or x i 0) e ∙ get_or-take 16 bs i 0 h) in
    let one = at 1 (omega arith) in
    let twelve : between 4 16 cs ≡ between 4 16 bs = between_is cs 4 16 ∙ (ap (drop 4) e ∙ sym (between_is bs 4 16)) in
    (at 0 (omega arith), ap (λ x. eqb x 0 && blank (between 4 16 cs)) one ∙ ap (λ x. eqb (get_or bs 1 0) 0 && blank x) twelve)

pub head_then : (xs bs cs : List ℕ) → SameHead xs bs → SameHead bs cs → SameHead xs cs
head_then xs bs cs h k = (k.0 ∙ h.0, k.1 ∙ h.1)

pub front_same : (n m : ℕ) (bs cs : List ℕ) → m ≤ n → take n cs ≡ take n bs → take m cs ≡ take m bs
front_same n m bs cs h e = sym (take-take m n cs h) ∙ (ap (take m) e ∙ take-take m n bs h)

pub front_records : (n : ℕ) (bs cs : List ℕ) → take (end_of n) cs ≡ take (end_of n) bs → records 0 n cs ≡ records 0 n bs
front_records n bs cs e =
    records_same 0 n bs cs
    (λ k l u. between_is cs (end_of k) (end_of k + 80)
    ∙ (ap (drop (end_of k)) (front_same (end_of n) (end_of k + 80) bs cs (omega arith) e) ∙ sym (between_is bs (end_of k) (end_of k + 80))))
