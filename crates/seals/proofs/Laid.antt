-- A roll as the rows that it is read in. Assumes nothing.
use Rattle.std.proofs.Common.{◌≡◌, ℕ, zero, suc, ◌+◌, ◌-◌, ◌*◌, ◌/◌, ◌%◌, ◌<◌, Bool, true, false, ◌==◌, ◌&&◌, List, [], length, get_or, take, drop, sym, refl, ap, ◌∙◌, arith}
use Rattle.std.specs.List.{list_all}
use Rattle.std.specs.Simd.{first_chunks}
use Rattle.std.proofs.lemmas.List.{drop-drop}
use Rattle.std.proofs.lemmas.Bool.{eq-eqb, ne_eqb, lt-ltb}
use Rattle.seals.specs.Roll.{laid, entries_laid, well_laid, is_of, index_of, entry_at, good_under}

entries_all : (k : ℕ) (roll : List ℕ) → list_all laid (first_chunks 84 k roll) ≡ entries_laid k roll
unfolding entries_laid
entries_all zero roll = refl
entries_all (suc k) roll = ap (λ b. laid (take 84 roll) && b) (entries_all k (drop 84 roll))

and_false : (b : Bool) → (b && false) ≡ false
and_false true = refl
and_false false = refl

module _ (roll rest : List ℕ) (rows : List (List ℕ)) (front : rows ≡ first_chunks 84 (length roll / 84) roll) (back : length rest ≡ length roll % 84) where
  pub laid_well : length rest ≡ 0 → list_all laid rows ≡ true → well_laid roll ≡ true
  laid_well z a =
      let e : entries_laid (length roll / 84) roll ≡ true = sym (entries_all (length roll / 84) roll) ∙ (ap (list_all laid) (sym front) ∙ a) in
      let m = eq-eqb (length roll % 84) 0 (sym back ∙ z) in
      cc

  pub laid_wrong : list_all laid rows ≡ false → well_laid roll ≡ false
  laid_wrong a =
      let e : entries_laid (length roll / 84) roll ≡ false = sym (entries_all (length roll / 84) roll) ∙ (ap (list_all laid) (sym front) ∙ a) in
      rw e (and_false (length roll % 84 == 0))

  pub part_left : (length rest ≡ 0 → ⊥) → well_laid roll ≡ false
  part_left n = let m = ne_eqb (length roll % 84) 0 (λ e. n (back ∙ e)) in cc

-- the i-th of the rows is the i-th entry
row_at : (k i : ℕ) (roll : List ℕ) → i < k → get_or (first_chunks 84 k roll) i [] ≡ take 84 (drop (i * 84) roll)
row_at zero i roll h = absurd (omega arith)
row_at (suc k) zero roll h = refl
row_at (suc k) (suc i) roll h =
    let e : 84 + i * 84 ≡ suc i * 84 = omega arith in
    row_at k i (drop 84 roll) (omega arith) ∙ ap (take 84) (drop-drop (i * 84) 84 roll ∙ ap (λ n. drop n roll) e)

-- i is the index in the seal
pub judged_good :
    (roll : List ℕ) (rows : List (List ℕ)) (i party : ℕ) (text seal entry : List ℕ) → length seal ≡ 2 → i ≡ index_of seal
    → rows ≡ first_chunks 84 (length roll / 84) roll → i < length roll / 84 → entry ≡ get_or rows i []
    → is_of entry party text ≡ good_under roll party text seal
judged_good roll rows i party text seal entry l e front h f =
    let w : i * 84 + 84 - i * 84 ≡ 84 = omega arith in
    let r : entry ≡ entry_at i roll
    = f ∙ (ap (λ v. get_or v i []) front ∙ (row_at (length roll / 84) i roll h ∙ ap (λ k. take k (drop (i * 84) roll)) (sym w))) in
    let t = eq-eqb (length seal) 2 l in
    let s = lt-ltb i (length roll / 84) h in
    cc
