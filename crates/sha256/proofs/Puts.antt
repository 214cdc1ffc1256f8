-- Bytes written into a block.
use Rattle.std.proofs.Common.{◌≡◌, ℕ, ◌+◌, ◌-◌, ◌*◌, ◌/◌, ◌%◌, ◌≤◌, List, [], ◌++◌, length, take, drop, sym, ap, ◌∙◌, arith}
use borrow.Rule.Slice.PartMut.{put_mid}
use Rattle.std.proofs.lemmas.List.{append-nil, drop_all, drop-drop, length-drop, take_at, take_rest}
use Rattle.std.proofs.lemmas.Slice.{take-put_mid}

-- a part written after what is there
pub put_after : (a k : ℕ) (xs ys zs : List ℕ) → a ≤ length xs → ys ≡ zs → take (a + length zs) (put_mid a k xs ys) ≡ take a xs ++ zs
put_after a k xs ys zs h e =
    let n : a + length zs ≡ a + length ys = ap (λ (l : List ℕ). a + length l) (sym e) in
    take-put_mid a k xs ys (a + length zs) n h ∙ ap (λ l. take a xs ++ l) e

-- a part written up to the end
pub put_to_end : (a k : ℕ) (xs ys zs : List ℕ) → length xs ≤ a + k → ys ≡ zs → put_mid a k xs ys ≡ take a xs ++ zs
put_to_end a k xs ys zs h e =
    let none : drop k (drop a xs) ≡ [] = drop-drop k a xs ∙ drop_all (a + k) xs h in
    ap (λ post. take a xs ++ (ys ++ post)) none ∙ ap (λ l. take a xs ++ l) (append-nil ys ∙ e)

-- the bytes after the last whole block, written to the front
pub left_in_front : (more ys post : List ℕ) → ys ≡ take (length more - length more / 64 * 64) (drop (length more / 64 * 64) more) →
    take (length more % 64) (ys ++ post) ≡ drop (length more / 64 * 64) more
left_in_front more ys post e =
    let all = e ∙ take_rest more (length more / 64 * 64) in
    let n : length ys ≡ length more % 64 = ap length all ∙ length-drop (length more / 64 * 64) more ∙ omega arith in
    take_at ys post (length more % 64) n ∙ all
