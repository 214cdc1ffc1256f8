-- Parts of bytes, read one after another.
use Rattle.std.proofs.Common.{◌≡◌, ℕ, ◌+◌, ◌-◌, ◌<◌, ◌≤◌, ◌≢◌, ◌==◌, true, false, List, length, get_or, take, drop, refl, ap, ◌∙◌, arith}
use Rattle.lms.specs.Verify.{is_key, is_seal, leaf_number}
use Rattle.sha256.specs.Compression.{word_at}
use Rattle.std.specs.Int.{w32, from_be_bytes}
use Rattle.std.specs.List.{between}
use Rattle.std.proofs.lemmas.List.{get_or-take, get_or-drop, drop-drop}
use Rattle.std.proofs.lemmas.Bool.{lt-ltb, le-ltb, ne_eqb, and_right}

module _ (bytes : List ℕ) where
  pub next_in : (a n : ℕ) (rest next : List ℕ) → rest ≡ drop a bytes → next ≡ drop n rest → next ≡ drop (a + n) bytes
  next_in a n rest next r e = e ∙ ap (drop n) r ∙ drop-drop n a bytes

  pub part_in : (a n : ℕ) (rest part : List ℕ) → rest ≡ drop a bytes → part ≡ take n rest → part ≡ between a (a + n) bytes
  part_in a n rest part r e =
      let size : n ≡ a + n - a = omega arith in
      e ∙ ap (take n) r ∙ ap (λ k. take k (drop a bytes)) size

  byte_in : (a : ℕ) (rest part : List ℕ) → rest ≡ drop a bytes → part ≡ take 4 rest → (j : ℕ) → j < 4 → get_or part j 0 ≡ get_or bytes (a + j) 0
  byte_in a rest part r e j lt = ap (λ l. get_or l j 0) e ∙ get_or-take 4 rest j 0 lt ∙ ap (λ l. get_or l j 0) r ∙ get_or-drop a bytes j 0

  pub word_in : (a w : ℕ) (rest part : List ℕ) → rest ≡ drop a bytes → part ≡ take 4 rest → w ≡ from_be_bytes w32 part → w ≡ word_at bytes a
  word_in a w rest part r e is =
      let b₀ : get_or part 0 0 ≡ get_or bytes a 0 = byte_in a rest part r e 0 (omega arith) ∙ ap (λ k. get_or bytes k 0) (omega arith) in
      let b₁ = byte_in a rest part r e 1 (omega arith) in
      let b₂ = byte_in a rest part r e 2 (omega arith) in
      let b₃ = byte_in a rest part r e 3 (omega arith) in
      omega (arith, is, b₀, b₁, b₂, b₃)

  pub is_key-true : length bytes ≡ 56 → word_at bytes 0 ≡ 6 → word_at bytes 4 ≡ 4 → is_key bytes ≡ true
  is_key-true l a b = rw (l, a, b) refl

  pub is_seal-true : length bytes ≡ 1452 → word_at bytes 4 ≡ 4 → word_at bytes 1128 ≡ 6 → leaf_number bytes < 1024 → is_seal bytes ≡ true
  is_seal-true l a b lt = rw (l, a, b, lt-ltb (leaf_number bytes) 1024 lt) refl

  pub other_one_time_type : word_at bytes 4 ≢ 4 → is_seal bytes ≡ false
  other_one_time_type n = rw (ne_eqb (word_at bytes 4) 4 n) (and_right _ false refl)

  pub other_tree_type : word_at bytes 1128 ≢ 6 → is_seal bytes ≡ false
  other_tree_type n = rw (ne_eqb (word_at bytes 1128) 6 n) (and_right (length bytes == 1452) _ (and_right (word_at bytes 4 == 4) false refl))

  pub no_leaf : 1024 ≤ leaf_number bytes → is_seal bytes ≡ false
  no_leaf le = rw (le-ltb (leaf_number bytes) 1024 le) (and_right (length bytes == 1452) _ (and_right (word_at bytes 4 == 4) _ (and_right (word_at bytes 1128 == 6) false refl)))
