-- What every book promises of its lines, over any kind of state.
use Rattle.std.specs.Prelude.{◌≡◌, ℕ, ◌≤◌, Bool, true, ◌&&◌, List, [], ◌∷◌, ◌≢◌}
use Rattle.book.specs.Line.{kind}

-- a line, given in by an account
pub record Move : Type 0 where
  pub account : ℕ
  pub line : List ℕ

-- whether a move is valid in a state, and the state that follows
abbrev pub valid_move : {State : Type 0} → (State → ℕ → List ℕ → Bool) → State → Move → Bool
valid_move valid s m = valid s m.account m.line

abbrev pub next_move : {State : Type 0} → (State → ℕ → List ℕ → State) → State → Move → State
next_move next s m = next s m.account m.line

-- the state after moves, one after another
abbrev pub after : {State : Type 0} → (State → ℕ → List ℕ → State) → State → List Move → State
after next s [] = s
after next s (m ∷ ms) = after next (next_move next s m) ms

-- each move is valid in its turn
abbrev pub all_valid : {State : Type 0} → (State → ℕ → List ℕ → Bool) → (State → ℕ → List ℕ → State) → State → List Move → Bool
all_valid valid next s [] = true
all_valid valid next s (m ∷ ms) = valid_move valid s m && all_valid valid next (next_move next s m) ms

-- a valid line has an account of at most 63 and a kind that the book lists
pub record Admitted (listed : ℕ → Bool) (account : ℕ) (line : List ℕ) : Type 0 where
  pub account_known : account ≤ 63
  pub kind_listed : listed (kind line) ≡ true

abbrev pub OnlyListed : {State : Type 0} → (ℕ → Bool) → (State → ℕ → List ℕ → Bool) → Type 0
OnlyListed {State} listed valid = (s : State) (account : ℕ) (line : List ℕ) → valid s account line ≡ true → Admitted listed account line

-- two moves can be made in either order, with one end
pub record EitherOrder {State : Type 0} (valid : State → ℕ → List ℕ → Bool) (next : State → ℕ → List ℕ → State) (s : State) (m n : Move) : Type 0 where
  pub first_stays : valid_move valid (next_move next s n) m ≡ true
  pub second_stays : valid_move valid (next_move next s m) n ≡ true
  pub same_end : next_move next (next_move next s m) n ≡ next_move next (next_move next s n) m

-- weak independence: moves of two different accounts, both valid in a state that valid moves reach from the opening,
-- can be made in either order
abbrev pub WeaklyIndependent : {State : Type 0} → (State → ℕ → List ℕ → Bool) → (State → ℕ → List ℕ → State) → State → Type 0
WeaklyIndependent valid next opening = (before : List Move) (m n : Move) → all_valid valid next opening before ≡ true → (m.account ≢ n.account) → valid_move valid (after next opening before) m ≡ true → valid_move valid (after next opening before) n ≡ true → EitherOrder valid next (after next opening before) m n
