-- Blank bytes, and parts of them. Assumes nothing.
use Rattle.std.proofs.Common.{◌≡◌, ℕ, zero, suc, ◌-◌, ◌≤◌, true, eqb, List, [], ◌∷◌, length, drop, replicate, sym, refl, ap, ◌∙◌, arith}
use Rattle.std.proofs.lemmas.List.{length-append, length-take, length-drop}
use Rattle.std.proofs.lemmas.Slice.{between_to_end, between-put_mid}
use borrow.Rule.Slice.PartMut.{put_mid}
use Rattle.std.proofs.lemmas.Bool.{and_parts}
use Rattle.layout.specs.Bytes.{blank}

blank_zeros : (n : ℕ) → blank (replicate n 0) ≡ true
blank_zeros zero = refl
blank_zeros (suc n) = blank_zeros n

pub blank_filled : (n : ℕ) (l : List ℕ) → l ≡ replicate n 0 → blank l ≡ true
blank_filled n l e = ap blank e ∙ blank_zeros n

pub blank_drop : (n : ℕ) (l : List ℕ) → blank l ≡ true → blank (drop n l) ≡ true
blank_drop zero l h = h
blank_drop (suc n) [] h = refl
blank_drop (suc n) (x ∷ l) h = blank_drop n l (and_parts (eqb x 0) (blank l) h).1

-- a write from `a` to the end of the bytes is what lies from `a` on
pub rest_put : (a : ℕ) (xs ys : List ℕ) → a ≤ length xs → length ys ≡ length xs - a → drop a (put_mid a (length xs - a) xs ys) ≡ ys
rest_put a xs ys h l =
    let n : length (put_mid a (length xs - a) xs ys) ≡ length xs = simp (length-append, length-take, length-drop) (omega arith) in
    sym (between_to_end (put_mid a (length xs - a) xs ys) a (length xs) (omega arith)) ∙ between-put_mid a (length xs - a) xs ys (length xs) h l
