-- Settling: while some account's docket at its next number waits and is covered, the lowest such account's settles.
use Rattle.std.specs.Prelude.{ℕ, zero, suc, ◌+◌, Bool, cond, List, [], ◌∷◌, Some, None, Option}
use Rattle.docket.specs.declared.Docket.{Docket}
use Rattle.docket.specs.Layout.{used_lines}
use Rattle.settling.specs.declared.account.Account.{Account}
use Rattle.settling.specs.Window.{waiting, advanced_in}

-- how many dockets wait
abbrev pub waiting_in : List (Option Docket) → ℕ
waiting_in [] = 0
waiting_in (None ∷ cs) = waiting_in cs
waiting_in (Some d ∷ cs) = suc (waiting_in cs)

abbrev pub waiting_count : List Account → ℕ
waiting_count [] = 0
waiting_count (a ∷ rest) = waiting_in a.cells + waiting_count rest

-- a book's state beside the accounts
pub record Ledger (State : Type 0) : Type 0 where
  pub state : State
  pub accounts : List Account

-- the state after an account's lines, where each is valid in its turn
abbrev pub after_lines : {State : Type 0} → (State → ℕ → List ℕ → Bool) → (State → ℕ → List ℕ → State) → ℕ → State → List (List ℕ) → Option State
after_lines valid next account s [] = Some s
after_lines valid next account s (l ∷ ls) = cond (valid s account l) (after_lines valid next account (next s account l) ls) None

-- a docket is covered when its lines are valid one after another: the state that follows
abbrev pub covered : {State : Type 0} → (State → ℕ → List ℕ → Bool) → (State → ℕ → List ℕ → State) → State → Docket → Option State
covered valid next s d = after_lines valid next d.account s (used_lines d)

-- the state after the docket that an account has at its next number, where one waits and is covered
abbrev pub covered_of : {State : Type 0} → (State → ℕ → List ℕ → Bool) → (State → ℕ → List ℕ → State) → State → Option Docket → Option State
covered_of valid next s None = None
covered_of valid next s (Some d) = covered valid next s d

abbrev pub ready : {State : Type 0} → (State → ℕ → List ℕ → Bool) → (State → ℕ → List ℕ → State) → State → Account → Option State
ready valid next s a = covered_of valid next s (waiting a a.next)

-- the first of two that is there, and a value with the index where it was found
abbrev pub or_else : {T : Type 0} → Option T → Option T → Option T
or_else (Some x) other = Some x
or_else None other = other

abbrev pub with_index : {T : Type 0} → ℕ → Option T → Option (ℕ × T)
with_index i None = None
with_index i (Some x) = Some (i, x)

-- the lowest ready account, counted from i, and the state after its docket
abbrev pub lowest_ready : {State : Type 0} → (State → ℕ → List ℕ → Bool) → (State → ℕ → List ℕ → State) → ℕ → State → List Account → Option (ℕ × State)
lowest_ready valid next i s [] = None
lowest_ready valid next i s (a ∷ rest) = or_else (with_index i (ready valid next s a)) (lowest_ready valid next (i + 1) s rest)

-- one docket settles
abbrev pub advanced_at : {State : Type 0} → List Account → Option (ℕ × State) → Option (Ledger State)
advanced_at accounts None = None
advanced_at accounts (Some x) = Some (record { state = x.1; accounts = advanced_in accounts x.0 })

unfoldable pub settle_one : {State : Type 0} → (State → ℕ → List ℕ → Bool) → (State → ℕ → List ℕ → State) → Ledger State → Option (Ledger State)
settle_one valid next l = advanced_at l.accounts (lowest_ready valid next 0 l.state l.accounts)

-- at most n settle, one after another: how many did, and what is left
abbrev pub then_settle : {State : Type 0} → (Ledger State → ℕ × Ledger State) → Ledger State → Option (Ledger State) → ℕ × Ledger State
then_settle rest l None = (0, l)
then_settle rest l (Some m) = (suc (rest m).0, (rest m).1)

abbrev pub settle_up_to : {State : Type 0} → (State → ℕ → List ℕ → Bool) → (State → ℕ → List ℕ → State) → ℕ → Ledger State → ℕ × Ledger State
settle_up_to valid next zero l = (0, l)
settle_up_to valid next (suc n) l = then_settle (settle_up_to valid next n) l (settle_one valid next l)

-- all that can: no more settle than wait
unfoldable pub settle_all : {State : Type 0} → (State → ℕ → List ℕ → Bool) → (State → ℕ → List ℕ → State) → Ledger State → ℕ × Ledger State
settle_all valid next l = settle_up_to valid next (waiting_count l.accounts) l

-- the index of the first line that is not valid in its turn; the first line's is i
abbrev pub first_invalid : {State : Type 0} → (State → ℕ → List ℕ → Bool) → (State → ℕ → List ℕ → State) → ℕ → ℕ → State → List (List ℕ) → Option ℕ
first_invalid valid next account i s [] = None
first_invalid valid next account i s (l ∷ ls) = cond (valid s account l) (first_invalid valid next account (i + 1) (next s account l) ls) (Some i)

-- the first line of a docket that keeps it from being covered
unfoldable pub uncovered : {State : Type 0} → (State → ℕ → List ℕ → Bool) → (State → ℕ → List ℕ → State) → State → Docket → Option ℕ
uncovered valid next s d = first_invalid valid next d.account 0 s (used_lines d)
