-- One more pair, one more pattern, one more check.
use Rattle.std.proofs.Common.{◌≡◌, ℕ, zero, suc, map, ◌+◌, ◌*◌, ◌≤◌, Bool, true, false, cond, List, [], ◌++◌, get_or, drop, sym, refl, ap, ◌∙◌, add-one, arith}
use mir.Val.{bool_byte}
use Rattle.lms_vectors.specs.Bytes.{value_of, unhex}
use Rattle.lms_vectors.specs.Repeats.{copies}
use Rattle.std.proofs.lemmas.List.{append_assoc, get_or-take}
use Rattle.std.specs.Simd.{first_chunks}

pub unhex_pairs : (n : ℕ) (text : List ℕ) → map (λ pair. value_of (get_or pair 0 0) * 16 + value_of (get_or pair 1 0)) (first_chunks 2 n text) ≡ unhex n text
unfolding unhex
unhex_pairs zero text = refl
unhex_pairs (suc n) text =
    let high = get_or-take 2 text 0 0 (omega arith) in
    let low = get_or-take 2 text 1 0 (omega arith) in
    rw (high, low, unhex_pairs n (drop 2 text)) refl

pub copies_none : (pattern : List ℕ) → copies 0 pattern ≡ []
unfolding copies
copies_none pattern = refl

pub copies_more : (pattern rest : List ℕ) (i : ℕ) → copies i pattern ++ (pattern ++ rest) ≡ copies (i + 1) pattern ++ rest
unfolding copies
copies_more pattern rest i = rw (add-one i) (sym (append_assoc (copies i pattern) pattern rest))

pub counts : (good r : Bool) (count i b : ℕ) → count ≡ cond good i 0 → r ≡ good → b ≡ bool_byte r → count + b ≡ cond good (i + 1) 0
counts true r count i b e q v = let one : b ≡ 1 = v ∙ ap bool_byte q in omega arith
counts false r count i b e q v = let none : b ≡ 0 = v ∙ ap bool_byte q in omega arith

pub at_most : (good : Bool) (n : ℕ) → cond good n 0 ≤ n
at_most true n = omega arith
at_most false n = omega arith

pub none_yet : (good : Bool) → ◌≡◌ {A = ℕ} 0 (cond good 0 0)
none_yet true = refl
none_yet false = refl
