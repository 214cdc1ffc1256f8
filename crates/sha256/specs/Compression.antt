-- The compression of FIPS 180-4, section 6.2.2: from eight words and a block to eight words.
use Rattle.std.specs.Prelude.{ℕ, zero, suc, ◌+◌, ◌-◌, ◌*◌, List, [], ◌∷◌, ◌++◌, length, slice_index}
use Rattle.std.specs.List.{fold}
use Rattle.sha256.specs.Words.{add, Σ₀, Σ₁, σ₀, σ₁, ch, maj}

-- the first 32 bits of the fractional parts of the cube roots of the first 64 primes
unfoldable pub constants : List ℕ
constants =
    0x428a_2f98 ∷ 0x7137_4491 ∷ 0xb5c0_fbcf ∷ 0xe9b5_dba5 ∷ 0x3956_c25b ∷ 0x59f1_11f1 ∷ 0x923f_82a4 ∷ 0xab1c_5ed5 ∷
    0xd807_aa98 ∷ 0x1283_5b01 ∷ 0x2431_85be ∷ 0x550c_7dc3 ∷ 0x72be_5d74 ∷ 0x80de_b1fe ∷ 0x9bdc_06a7 ∷ 0xc19b_f174 ∷
    0xe49b_69c1 ∷ 0xefbe_4786 ∷ 0x0fc1_9dc6 ∷ 0x240c_a1cc ∷ 0x2de9_2c6f ∷ 0x4a74_84aa ∷ 0x5cb0_a9dc ∷ 0x76f9_88da ∷
    0x983e_5152 ∷ 0xa831_c66d ∷ 0xb003_27c8 ∷ 0xbf59_7fc7 ∷ 0xc6e0_0bf3 ∷ 0xd5a7_9147 ∷ 0x06ca_6351 ∷ 0x1429_2967 ∷
    0x27b7_0a85 ∷ 0x2e1b_2138 ∷ 0x4d2c_6dfc ∷ 0x5338_0d13 ∷ 0x650a_7354 ∷ 0x766a_0abb ∷ 0x81c2_c92e ∷ 0x9272_2c85 ∷
    0xa2bf_e8a1 ∷ 0xa81a_664b ∷ 0xc24b_8b70 ∷ 0xc76c_51a3 ∷ 0xd192_e819 ∷ 0xd699_0624 ∷ 0xf40e_3585 ∷ 0x106a_a070 ∷
    0x19a4_c116 ∷ 0x1e37_6c08 ∷ 0x2748_774c ∷ 0x34b0_bcb5 ∷ 0x391c_0cb3 ∷ 0x4ed8_aa4a ∷ 0x5b9c_ca4f ∷ 0x682e_6ff3 ∷
    0x748f_82ee ∷ 0x78a5_636f ∷ 0x84c8_7814 ∷ 0x8cc7_0208 ∷ 0x90be_fffa ∷ 0xa450_6ceb ∷ 0xbef9_a3f7 ∷ 0xc671_78f2 ∷
    []

-- the first 32 bits of the fractional parts of the square roots of the first eight primes
unfoldable pub initial : List ℕ
initial =
    0x6a09_e667 ∷ 0xbb67_ae85 ∷ 0x3c6e_f372 ∷ 0xa54f_f53a ∷ 0x510e_527f ∷ 0x9b05_688c ∷ 0x1f83_d9ab ∷ 0x5be0_cd19 ∷
    []

-- the word that four bytes stand for, the highest one first
abbrev pub word_at : List ℕ → ℕ → ℕ
word_at bytes i = slice_index bytes i * 16777216 + slice_index bytes (i + 1) * 65536 + slice_index bytes (i + 2) * 256 + slice_index bytes (i + 3)

-- the first `n` words of a block
unfoldable pub words_of : ℕ → List ℕ → List ℕ
words_of zero block = []
words_of (suc n) block = words_of n block ++ word_at block (4 * n) ∷ []

-- the next word of a schedule
abbrev pub next_word : List ℕ → ℕ
next_word ws =
    let t = length ws in
    add (add (add (σ₁ (slice_index ws (t - 2))) (slice_index ws (t - 7))) (σ₀ (slice_index ws (t - 15)))) (slice_index ws (t - 16))

-- a schedule and `k` words more
unfoldable pub extended : ℕ → List ℕ → List ℕ
extended zero ws = ws
extended (suc k) ws = extended k ws ++ next_word (extended k ws) ∷ []

-- the 64 words that a block spreads to
unfoldable pub schedule : List ℕ → List ℕ
schedule block = extended 48 (words_of 16 block)

abbrev pub T₁ : ℕ → ℕ → List ℕ → ℕ
T₁ k w s = add (add (add (add (slice_index s 7) (Σ₁ (slice_index s 4))) (ch (slice_index s 4) (slice_index s 5) (slice_index s 6))) k) w

abbrev pub T₂ : List ℕ → ℕ
T₂ s = add (Σ₀ (slice_index s 0)) (maj (slice_index s 0) (slice_index s 1) (slice_index s 2))

-- one turn of the eight words, by a constant and a word of the schedule
unfoldable pub turn : ℕ → ℕ → List ℕ → List ℕ
turn k w s =
    add (T₁ k w s) (T₂ s) ∷ slice_index s 0 ∷ slice_index s 1 ∷ slice_index s 2 ∷
    add (slice_index s 3) (T₁ k w s) ∷ slice_index s 4 ∷ slice_index s 5 ∷ slice_index s 6 ∷ []

-- the first `t` turns
unfoldable pub turns : ℕ → List ℕ → List ℕ → List ℕ
turns zero ws s = s
turns (suc t) ws s = turn (slice_index constants t) (slice_index ws t) (turns t ws s)

-- turns by pairs of a constant and a word, one after another
abbrev pub turned : List ℕ → List (ℕ × ℕ) → List ℕ
turned s pairs = fold (λ s p. turn p.0 p.1 s) s pairs

-- eight sums, word by word
unfoldable pub added : List ℕ → List ℕ → List ℕ
added s u =
    add (slice_index s 0) (slice_index u 0) ∷ add (slice_index s 1) (slice_index u 1) ∷ add (slice_index s 2) (slice_index u 2) ∷ add (slice_index s 3) (slice_index u 3) ∷
    add (slice_index s 4) (slice_index u 4) ∷ add (slice_index s 5) (slice_index u 5) ∷ add (slice_index s 6) (slice_index u 6) ∷ add (slice_index s 7) (slice_index u 7) ∷ []

unfoldable pub compressed : List ℕ → List ℕ → List ℕ
compressed s block = added s (turns 64 (schedule block) s)
