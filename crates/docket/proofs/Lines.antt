-- The first line that is not blank. Assumes nothing.
use Rattle.std.proofs.Common.{◌≡◌, ℕ, ◌+◌, ◌*◌, Bool, true, false, cond, not, ◌&&◌, leb, List, [], ◌∷◌, Some, None, Option, refl, ap, ◌∙◌}
use Rattle.std.specs.List.{enumerate_from, position_from}
use Rattle.std.specs.Option.{MatchOption, IsSomeAnd, option_map}
use Rattle.docket.specs.Layout.{blank, wrong_line}

-- what a closure makes of what an option holds
pub mapped : {A B : Type 0} (f : A → B) (P : A → B → Type 0) (o : Option A) (r : Option B)
    → MatchOption o (r ≡ None) (λ x. IsSomeAnd r (λ y. P x y)) → ((x : A) (y : B) → P x y → y ≡ f x) → r ≡ option_map f o
mapped f P None r h k = h
mapped f P (Some x) None h k = absurd h
mapped f P (Some x) (Some y) h k = ap Some (k x y h)

mapped_if : (f : ℕ → ℕ) (b : Bool) (i : ℕ) (o : Option ℕ) → cond b (Some (f i)) (option_map f o) ≡ option_map f (cond b (Some i) o)
mapped_if f true i o = refl
mapped_if f false i o = refl

pub wrong_at : (k i : ℕ) (ls : List (List ℕ)) → wrong_line k i ls ≡ option_map (λ j. 16 + 16 * j) (position_from (λ p. leb k p.0 && not (blank p.1)) i (enumerate_from i ls))
wrong_at k i [] = refl
wrong_at k i (l ∷ ls) = ap (cond (leb k i && not (blank l)) (Some (16 + 16 * i))) (wrong_at k (i + 1) ls) ∙ mapped_if (λ j. 16 + 16 * j) (leb k i && not (blank l)) i _
