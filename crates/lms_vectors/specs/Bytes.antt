-- Bytes in hexadecimal.
use Rattle.std.specs.Prelude.{ℕ, zero, suc, ◌+◌, ◌-◌, ◌*◌, cond, ◌&&◌, List, [], ◌∷◌, drop, nat_le, slice_index}

-- a digit's value; any other character counts as 0
abbrev pub value_of : ℕ → ℕ
value_of b = cond (nat_le 48 b && nat_le b 57) (b - 48) (cond (nat_le 97 b && nat_le b 102) (b - 87) 0)

-- the bytes that the first `n` pairs of digits stand for
unfoldable pub unhex : ℕ → List ℕ → List ℕ
unhex zero text = []
unhex (suc n) text = (value_of (slice_index text 0) * 16 + value_of (slice_index text 1)) ∷ unhex n (drop 2 text)
