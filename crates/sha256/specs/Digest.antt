-- SHA-256 of a text of bytes: FIPS 180-4, sections 5.1.1 and 6.2.
use Rattle.std.specs.Prelude.{ℕ, zero, suc, ◌-◌, ◌*◌, ◌/◌, ◌%◌, ◌^◌, List, [], ◌∷◌, ◌++◌, length, take, drop, replicate}
use Rattle.sha256.specs.Compression.{compressed, initial}

-- numbers as eight and four bytes, the highest one first
abbrev pub u64 : ℕ → List ℕ
u64 n =
    (n / 72057594037927936 % 256) ∷ (n / 281474976710656 % 256) ∷ (n / 1099511627776 % 256) ∷ (n / 4294967296 % 256) ∷
    (n / 16777216 % 256) ∷ (n / 65536 % 256) ∷ (n / 256 % 256) ∷ (n % 256) ∷ []

abbrev pub u32 : ℕ → List ℕ
u32 n = (n / 16777216 % 256) ∷ (n / 65536 % 256) ∷ (n / 256 % 256) ∷ (n % 256) ∷ []

-- what follows a text of `n` bytes: a one, zeros up to a block's last eight bytes, and the count of its bits, modulo 2^64
unfoldable pub padding : ℕ → List ℕ
padding n = 128 ∷ replicate ((119 - n % 64) % 64) 0 ++ u64 (n * 8 % 2 ^ 64)

-- the first `n` blocks of 64 bytes, one after another
unfoldable pub folded : ℕ → List ℕ → List ℕ → List ℕ
folded zero s bytes = s
folded (suc n) s bytes = folded n (compressed s (take 64 bytes)) (drop 64 bytes)

-- words as bytes
unfoldable pub bytes_of : List ℕ → List ℕ
bytes_of [] = []
bytes_of (w ∷ ws) = u32 w ++ bytes_of ws

-- the digest of a text of `n` bytes of which the words `s` stand for all but `rest`
unfoldable pub finished : List ℕ → ℕ → List ℕ → List ℕ
finished s n rest =
    let padded = rest ++ padding n in
    bytes_of (folded (length padded / 64) s padded)

unfoldable pub sha256 : List ℕ → List ℕ
sha256 text = finished initial (length text) text
