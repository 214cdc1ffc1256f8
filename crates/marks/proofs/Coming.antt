-- Outcomes in the cells of a row. Assumes nothing.
use Rattle.std.proofs.Common.{◌≡◌, ℕ, zero, suc, ◌+◌, ◌<◌, ◌≤◌, List, [], ◌∷◌, map, length, get_or, Some, None, Option, refl, ap, sym, ◌∙◌, subst, arith}
use denote.Param.Members.{Mut}
use Rattle.std.specs.Fn.{Called}
use Rattle.std.specs.List.{slice_get}
use Rattle.std.specs.Array.{IsFromFnResult, IsFromFnResultFrom}
use Rattle.marks.specs.Kept.{some_not_none}
use Rattle.marks.specs.Outcomes.{ends}
use Rattle.marks.specs.Rows.{filled}
use Rattle.marks.specs.declared.outcome.Outcome.{Outcome}

-- cells that hold the elements of a list at their places, and none past its end
filled_is : (xs : List Outcome) (cells : List (Option Outcome)) → length xs ≤ length cells → ((k : ℕ) → k < length cells → get_or cells k None ≡ slice_get xs k) → filled cells ≡ xs
filled_is [] [] l h = refl
filled_is (x ∷ xs) [] l h = absurd (omega arith)
filled_is [] (None ∷ cells) l h = refl
filled_is [] (Some y ∷ cells) l h = absurd (some_not_none y (sym (h 0 (omega arith))))
filled_is (x ∷ xs) (None ∷ cells) l h = absurd (some_not_none x (h 0 (omega arith)))
filled_is (x ∷ xs) (Some y ∷ cells) l h =
    let e : ◌≡◌ {A = Option Outcome} (Some y) (Some x) = h 0 (omega arith) in
    let r : filled cells ≡ xs = filled_is xs cells (omega arith) (λ k b. h (suc k) (omega arith)) in
    cc

-- the same of cells that calls gave
module _ {F : Type 0} (g : Mut F (ℕ × Unit {0}) (Option Outcome)) (f : F) (xs : List Outcome) (each : (i : ℕ) (y : Option Outcome) (q : F) → Called g f (i, tt) y q → (q ≡ f) × (y ≡ slice_get xs i)) where
  cell_at : (cells : List (Option Outcome)) (i n k : ℕ) → IsFromFnResultFrom g f cells i n → k < n → get_or cells (i + k) None ≡ slice_get xs (i + k)
  cell_at cells i zero k r h = absurd (omega arith)
  cell_at cells i (suc n) zero r h =
      let z : i ≡ i + 0 = omega arith in
      subst (λ j. get_or cells j None ≡ slice_get xs j) z (r.2.1 None ∙ (each i r.1 r.0 r.3).1)
  cell_at cells i (suc n) (suc k) r h =
      let z : (i + 1) + k ≡ i + suc k = omega arith in
      let q = each i r.1 r.0 r.3 in
      subst (λ j. get_or cells j None ≡ slice_get xs j) z (cell_at cells (i + 1) n k (subst (λ p. IsFromFnResultFrom g p cells (i + 1) n) q.0 r.4) (omega arith))

  pub filled_all : (cells : List (Option Outcome)) (n : ℕ) → IsFromFnResult g f cells n → length xs ≤ n → map ends (filled cells) ≡ map ends xs
  filled_all cells n r h =
      let at : (k : ℕ) → k < length cells → get_or cells k None ≡ slice_get xs k =
      λ k b. let z : 0 + k ≡ k = omega arith in subst (λ j. get_or cells j None ≡ slice_get xs j) z (cell_at cells 0 n k r.each (omega (arith, r.long))) in
      ap (map ends) (filled_is xs cells (omega (arith, r.long)) at)
