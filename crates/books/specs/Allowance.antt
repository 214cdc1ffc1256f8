-- The allowance: a layer over any book that lets each account make so many lines since the opening and no more.
use Rattle.std.specs.Prelude.{ℕ, ◌+◌, Bool, ◌&&◌, List, replicate, nat_lt, slice_index, slice_set}

-- the fixed maximum, how many lines each account has made, and the state of the book below
pub record Spent (S : Type 0) : Type 0 where
  pub maximum : ℕ
  pub counts : List ℕ
  pub below : S

abbrev pub spent : {S : Type 0} → ℕ → List ℕ → S → Spent S
spent maximum counts below = record { maximum = maximum; counts = counts; below = below }

unfoldable pub no_lines : List ℕ
no_lines = replicate 64 0

-- how many lines an account has made
abbrev pub made : List ℕ → ℕ → ℕ
made counts account = slice_index counts account

-- the issuer has made fewer lines than the maximum, and the book below finds the line valid
abbrev pub allowance_valid : {S : Type 0} → (S → ℕ → List ℕ → Bool) → Spent S → ℕ → List ℕ → Bool
allowance_valid valid s issuer line = nat_lt (made s.counts issuer) s.maximum && valid s.below issuer line

-- the issuer has made one line more
abbrev pub allowance_next : {S : Type 0} → (S → ℕ → List ℕ → S) → Spent S → ℕ → List ℕ → Spent S
allowance_next next s issuer line = spent s.maximum (slice_set s.counts issuer (made s.counts issuer + 1)) (next s.below issuer line)

-- the book below answers
abbrev pub allowance_answer : {S Q A : Type 0} → (S → Q → A) → Spent S → Q → A
allowance_answer answer s q = answer s.below q
