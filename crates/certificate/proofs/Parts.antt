-- Parts of lists. Assumes nothing.
use Rattle.std.proofs.Common.{◌≡◌, ℕ, zero, suc, ◌+◌, ◌-◌, ◌<◌, ◌≤◌, List, [], ◌∷◌, length, get_or, take, drop, sym, refl, ap, ◌∙◌, arith}
use Rattle.std.specs.List.{between}
use Rattle.std.proofs.lemmas.List.{drop_more, take-take}
use Rattle.std.proofs.lemmas.Slice.{between_is}
use Rattle.docket.proofs.RoundTrip.{take_bytes, drop_bytes}

-- a part of the front that it lies in
pub between_take : (xs : List ℕ) (i j : ℕ) → between i j (take j xs) ≡ between i j xs
between_take xs i j = between_is (take j xs) i j ∙ (ap (drop i) (take-take j j xs (omega arith)) ∙ sym (between_is xs i j))

-- a part by its length
pub part : (xs : List ℕ) (i n : ℕ) → between i (i + n) xs ≡ take n (drop i xs)
part xs i n = let e : (i + n) - i ≡ n = omega arith in ap (λ k. take k (drop i xs)) e

-- bytes stay bytes in a part
pub bytes_between : (xs : List ℕ) (i j : ℕ) → ((k : ℕ) → get_or xs k 0 < 256) → (k : ℕ) → get_or (between i j xs) k 0 < 256
bytes_between xs i j b k = take_bytes (j - i) (drop i xs) (drop_bytes i xs b) k

-- n elements from the i-th on, written out
abbrev pub spelled : ℕ → ℕ → List ℕ → List ℕ
spelled zero i xs = []
spelled (suc n) i xs = get_or xs i 0 ∷ spelled n (i + 1) xs

pub spell : (n i : ℕ) (xs : List ℕ) → i + n ≤ length xs → take n (drop i xs) ≡ spelled n i xs
spell zero i xs h = refl
spell (suc n) i xs h =
    ap (take (suc n)) (drop_more xs i 0 (omega arith)) ∙ ap (λ r. get_or xs i 0 ∷ r) (spell n (i + 1) xs (omega arith))
