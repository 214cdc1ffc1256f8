-- What lies in bytes, and bytes written over others.
use Rattle.std.specs.Prelude.{ℕ, ◌+◌, Bool, cond, List, ◌++◌, length, take, drop, ◌==◌, nat_le}
use Rattle.std.specs.List.{list_all}

-- every byte is zero
abbrev pub blank : List ℕ → Bool
blank bytes = list_all (λ b. b == 0) bytes

-- `part` written over `bytes` from `at` on, where it fits
abbrev pub overwritten : List ℕ → ℕ → List ℕ → List ℕ
overwritten bytes at part =
    cond (nat_le (at + length part) (length bytes)) (take at bytes ++ (part ++ drop (at + length part) bytes)) bytes
