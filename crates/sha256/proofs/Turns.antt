-- Turns one by one and eight by eight, and one more word.
use Rattle.std.proofs.Common.{◌≡◌, ℕ, zero, suc, ap, ◌+◌, ◌-◌, ◌*◌, ◌/◌, ◌<◌, ◌≤◌, List, [], ◌∷◌, ◌++◌, length, take, drop, sym, set, refl, ◌∙◌, add-one, arith}
use Rattle.sha256.specs.Compression.{constants, next_word, extended, turn, turned, turns}
use Rattle.std.proofs.lemmas.List.Sums.{fold_more, fold-append}
use Rattle.std.proofs.lemmas.Slice.Zip.{get_or-zip, length-zip}
use Rattle.std.specs.List.{fold, zip}
use Rattle.std.proofs.lemmas.List.{take_all, take_more_set, take-append-drop, length-take, length-drop}
use Rattle.std.specs.Simd.{first_chunks}

length_constants : length constants ≡ 64
unfolding constants
length_constants = refl

pub turns_fold : (ws s : List ℕ) (t : ℕ) → length ws ≡ 64 → t ≤ 64 → turns t ws s ≡ turned s (take t (zip constants ws))
unfolding turns
turns_fold ws s zero h le = refl
turns_fold ws s (suc t) h le =
    let long : length (zip constants ws) ≡ 64 = simp (length-zip, h, length_constants) refl in
    let more = fold_more (λ s p. turn p.0 p.1 s) s (zip constants ws) t (0, 0) (omega arith) in
    let pair = get_or-zip constants ws t (0, 0) (omega (arith, length_constants)) (omega arith) in
    rw (← add-one t, more, pair, turns_fold ws s t h (omega arith)) refl

pub turns_whole : (ws s : List ℕ) → length ws ≡ 64 → turns 64 ws s ≡ turned s (zip constants ws)
turns_whole ws s h =
    let long : length (zip constants ws) ≤ 64 = simp (length-zip, h, length_constants) (omega arith) in
    turns_fold ws s 64 h (omega arith) ∙ ap (turned s) (take_all 64 (zip constants ws) long)

zip_append : (xs ys : List ℕ) (us vs : List ℕ) → length xs ≡ length us → zip (xs ++ ys) (us ++ vs) ≡ zip xs us ++ zip ys vs
zip_append [] ys [] vs h = refl
zip_append [] ys (u ∷ us) vs h = absurd (omega arith)
zip_append (x ∷ xs) ys [] vs h = absurd (omega arith)
zip_append (x ∷ xs) ys (u ∷ us) vs h = ap (λ ps. (x, u) ∷ ps) (zip_append xs ys us vs (omega arith))

-- eight pairs at a time
pub turned_by_eights : (k : ℕ) (s xs ys : List ℕ) → length xs ≡ k * 8 → length ys ≡ k * 8 →
    fold (λ s p. turned s (zip p.0 p.1)) s (zip (first_chunks 8 k xs) (first_chunks 8 k ys)) ≡ turned s (zip xs ys)
turned_by_eights zero s [] ys h l = refl
turned_by_eights zero s (x ∷ xs) ys h l = absurd (omega arith)
turned_by_eights (suc k) s xs ys h l =
    let a = turned_by_eights k (turned s (zip (take 8 xs) (take 8 ys))) (drop 8 xs) (drop 8 ys) (simp length-drop (omega arith)) (simp length-drop (omega arith)) in
    let same : length (take 8 xs) ≡ length (take 8 ys) = simp length-take (omega arith) in
    let parts = zip_append (take 8 xs) (drop 8 xs) (take 8 ys) (drop 8 ys) same in
    let whole : zip xs ys ≡ zip (take 8 xs) (take 8 ys) ++ zip (drop 8 xs) (drop 8 ys) = (rw (take-append-drop, take-append-drop) at parts) in
    a ∙ sym (fold-append (λ s p. turn p.0 p.1 s) s (zip (take 8 xs) (take 8 ys)) (zip (drop 8 xs) (drop 8 ys))) ∙ sym (ap (turned s) whole)

pub all_by_eights : (ws s : List ℕ) (rows : List (List ℕ)) → length ws ≡ 64 → rows ≡ first_chunks 8 (length ws / 8) ws →
    fold (λ s p. turned s (zip p.0 p.1)) s (zip (first_chunks 8 8 constants) rows) ≡ turns 64 ws s
all_by_eights ws s rows h cut =
    let eight : length ws / 8 ≡ 8 = omega arith in
    let same = cut ∙ ap (λ n. first_chunks 8 n ws) eight in
    ap (λ r. fold (λ s p. turned s (zip p.0 p.1)) s (zip (first_chunks 8 8 constants) r)) same
    ∙ turned_by_eights 8 s constants ws length_constants h ∙ sym (turns_whole ws s h)

pub extended_none : (ws : List ℕ) → ws ≡ extended 0 ws
unfolding extended
extended_none ws = refl

pub extended_more : (base ws : List ℕ) (t w : ℕ) → 16 ≤ t → t < length ws → take t ws ≡ extended (t - 16) base → w ≡ next_word (take t ws) → take (t + 1) (set ws t w) ≡ extended (t + 1 - 16) base
unfolding extended
extended_more base ws t w low h e f =
    let one = take_more_set ws t w h in
    let n : t + 1 - 16 ≡ suc (t - 16) = omega arith in
    one ∙ rw (n, ← e, ← f)
