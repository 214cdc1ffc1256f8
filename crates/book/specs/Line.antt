-- How the bytes of a line are read.
use Rattle.std.specs.Prelude.{ℕ, zero, suc, ◌+◌, ◌*◌, ◌^◌, Bool, true, ◌&&◌, List, ◌==◌, slice_index}

-- byte 0 is the kind
abbrev pub kind : List ℕ → ℕ
kind line = slice_index line 0

-- `count` bytes are zero, the first of them at `place`
abbrev pub zeros : ℕ → ℕ → List ℕ → Bool
zeros place zero line = true
zeros place (suc count) line = slice_index line place == 0 && zeros (suc place) count line

-- bytes 8 to 15, the greatest digit first
abbrev pub last_number : List ℕ → ℕ
last_number line = slice_index line 8 * 2 ^ 56 + slice_index line 9 * 2 ^ 48 + slice_index line 10 * 2 ^ 40 + slice_index line 11 * 2 ^ 32 + slice_index line 12 * 2 ^ 24 + slice_index line 13 * 2 ^ 16 + slice_index line 14 * 2 ^ 8 + slice_index line 15
