-- Arrays made element by element, and slices cut into arrays.
use Rattle.std.proofs.Common.{◌≡◌, ℕ, zero, suc, ◌+◌, ◌*◌, ◌<◌, List, get_or, map, length, sym, take, drop, refl, ◌∙◌, ap, subst, below_more, arith}
use Rattle.std.specs.Array.{IsFromFnResult, IsFromFnResultFrom, IsMapOf}
use Rattle.std.specs.Fn.{Called}
use Rattle.std.specs.List.{range_with_len}
use Rattle.sha256.specs.Compression.{word_at}
use Rattle.std.specs.Int.{w32, from_be_bytes}
use Rattle.std.specs.Simd.{first_chunks}
use Rattle.std.proofs.lemmas.List.{get_or-take, get_or-drop, drop-drop, get_or-map, length-map, same_lists}
use Rattle.std.proofs.lemmas.List.FromFn.{fill_by_all}
use denote.Param.Members.{Mut}

-- an array whose elements come from calls that all give what h gives
module _ {F : Type 0} (g : Mut F (ℕ × Unit {0}) ℕ) (f : F) (h : ℕ → ℕ) (ys : List ℕ) (m : ℕ) (calls : (i r : ℕ) (q : F) → i < m → Called g f (i, tt) r q → (q ≡ f) × (r ≡ h i)) where
  at_each : (q : F) (i n : ℕ) → q ≡ f → i + n ≡ m → ((k : ℕ) → k < i → get_or ys k 0 ≡ h k) → IsFromFnResultFrom g q ys i n → (k : ℕ) → k < m → get_or ys k 0 ≡ h k
  at_each q i zero same sum below e = λ k lt. below k (omega arith)
  at_each q i (suc n) same sum below e =
      let now = calls i e.1 e.0 (omega arith) (subst (λ p. Called g p (i, tt) e.1 e.0) same e.3) in
      at_each e.0 (i + 1) n now.0 (omega arith) (below_more (λ k. get_or ys k 0 ≡ h k) i below (e.2.1 0 ∙ now.1)) e.4

  pub made_by : IsFromFnResult g f ys m → ys ≡ map h (range_with_len 0 m)
  made_by e = fill_by_all h ys m 0 e.long (at_each f 0 m refl (omega arith) (λ k lt. absurd (omega arith)) e.each)

-- an array of what a function gives at each element of another
pub mapped_by : {B F : Type 0} (g : Mut F (ℕ × Unit {0}) B) (f : F) (h : ℕ → B) (xs : List ℕ) (ys : List B) (n : ℕ) → length xs ≡ n → IsMapOf g f xs ys n →
    ((x : ℕ) (r : B) (p q : F) → Called g p (x, tt) r q → r ≡ h x) → ys ≡ map h xs
mapped_by g f h xs ys n long e calls =
    same_lists ys (map h xs) (e.long ∙ sym long ∙ sym (length-map _ _)) (λ k d lt.
    let low : k < length xs = omega (arith, e.long) in
    let at = e.at k 0 d (omega (arith, e.long)) in
    calls (get_or xs k 0) (get_or ys k d) at.0 at.1 at.2 ∙ sym (get_or-map h xs k 0 d low))

pub chunk_at : (n k : ℕ) (xs : List ℕ) (i : ℕ) (d : List ℕ) → i < k → get_or (first_chunks n k xs) i d ≡ take n (drop (n * i) xs)
chunk_at n zero xs i d low = absurd (omega arith)
chunk_at n (suc k) xs zero d low =
    let none : n * 0 ≡ 0 = omega arith in
    rw none refl
chunk_at n (suc k) xs (suc i) d low =
    let from : n + n * i ≡ n * suc i = omega arith in
    chunk_at n k (drop n xs) i d (omega arith) ∙ ap (take n) (drop-drop (n * i) n xs ∙ ap (λ m. drop m xs) from)

byte_of_chunk : (k : ℕ) (xs : List ℕ) (i j : ℕ) (d : List ℕ) → i < k → j < 4 → get_or (get_or (first_chunks 4 k xs) i d) j 0 ≡ get_or xs (4 * i + j) 0
byte_of_chunk k xs i j d low lt = ap (λ l. get_or l j 0) (chunk_at 4 k xs i d low) ∙ get_or-take 4 (drop (4 * i) xs) j 0 lt ∙ get_or-drop (4 * i) xs j 0

pub word_of_chunk : (k : ℕ) (xs : List ℕ) (i : ℕ) (d : List ℕ) → i < k → from_be_bytes w32 (get_or (first_chunks 4 k xs) i d) ≡ word_at xs (4 * i)
word_of_chunk k xs i d low =
    let b₀ = byte_of_chunk k xs i 0 d low (omega arith) in
    let none : 4 * i + 0 ≡ 4 * i = omega arith in
    rw (b₀, byte_of_chunk k xs i 1 d low (omega arith), byte_of_chunk k xs i 2 d low (omega arith), byte_of_chunk k xs i 3 d low (omega arith), none) refl
