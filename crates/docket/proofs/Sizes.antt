-- How long the rows of an array of arrays are. Assumes nothing.
use Rattle.std.proofs.Common.{◌≡◌, ℕ, zero, suc, ◌<◌, List, [], ◌∷◌, length, get_or, arith}
use mir.Val.{Val}
use base.Fml.{Fml}
use denote.Array.{each, in_array}
use denote.Shadow.{shadow}

-- by what a value's type says of it
pub row_long :
    (X : Type 0) (f : X → List Val → Fml) (n : ℕ) (rows : List (List X)) (vs : List Val) (i : ℕ) (d : List X)
    → shadow (each (List X) (in_array X f n) rows vs) → i < length rows → length (get_or rows i d) ≡ n
row_long X f n [] vs i d h l = absurd (omega arith)
row_long X f n (x ∷ xs) [] i d h l = absurd h
row_long X f n (x ∷ xs) (v ∷ vs) zero d h l = h.0.1.0.1
row_long X f n (x ∷ xs) (v ∷ vs) (suc i) d h l = row_long X f n xs vs i d h.1 (omega arith)
