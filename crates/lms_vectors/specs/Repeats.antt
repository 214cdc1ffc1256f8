-- A pattern over and over.
use Rattle.std.specs.Prelude.{ℕ, zero, suc, ◌/◌, ◌%◌, List, [], ◌++◌, take}

unfoldable pub copies : ℕ → List ℕ → List ℕ
copies zero pattern = []
copies (suc n) pattern = copies n pattern ++ pattern

-- the first `n` bytes of a pattern of 256 bytes that goes on and on
abbrev pub repeated : ℕ → List ℕ → List ℕ
repeated n pattern = copies (n / 256) pattern ++ take (n % 256) pattern
