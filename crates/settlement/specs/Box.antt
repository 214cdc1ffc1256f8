-- A box, and what its calls answer and leave.
use Rattle.std.specs.Prelude.{ℕ, ◌+◌, ◌*◌, Bool, cond, ◌&&◌, List, replicate, Some, None, Ok, Option, Result, nat_le, nat_lt}
use Rattle.refusals.specs.Reading.{Reading, and_then, if_ok}
use Rattle.refusals.specs.declared.Cause.TheVariants as cause
use Rattle.docket.specs.declared.Docket.{Docket}
use Rattle.docket.specs.Layout.{encoded}
use Rattle.settling.specs.declared.account.Account.{Account}
use Rattle.settling.specs.Window.{fresh, account_of, stored, waiting}
use Rattle.settling.specs.Settle.{Ledger, settle_all}
use Rattle.settlement.specs.declared.cold.ColdBox.{ColdBox}
use Rattle.settlement.specs.Accept.{refused, accepted, admitted}

-- A box as its calls see it: the pool's number and its own, how many boxes there are and how many countersigns are
-- needed, the three states of its book, and the accounts.
pub record BoxState (State : Type 0) : Type 0 where
  pub pool : ℕ
  pub number : ℕ
  pub boxes : ℕ
  pub needed : ℕ
  pub opening : State
  pub kept : State
  pub current : State
  pub accounts : List Account

-- 1 to 4 boxes may be faulty, f of them say; there are 3f + 1, numbered from 0
abbrev pub in_range : ℕ → ℕ → Bool
in_range number f = nat_le 1 f && (nat_le f 4 && nat_lt number (3 * f + 1))

-- a box at a start, as setup leaves it
abbrev pub started_box : {State : Type 0} → ℕ → ℕ → ℕ → State → BoxState State
started_box pool number f opening = record {
  pool = pool;
  number = number;
  boxes = 3 * f + 1;
  needed = 2 * f + 1;
  opening = opening;
  kept = opening;
  current = opening;
  accounts = replicate 64 fresh;
}

-- setup: 2f + 1 countersigns are needed, every account is fresh, and the book is at its opening
unfoldable pub set_up : {State : Type 0} → ℕ → ℕ → ℕ → State → Result (BoxState State) Reading
set_up pool number f opening =
    cond (in_range number f)
    (Ok (started_box pool number f opening))
    (refused cause.OutOfRange 0)

-- restart: the book is at its opening again, every next number is 1 and no cell is filled
abbrev pub restart_box : {State : Type 0} → BoxState State → BoxState State
restart_box b = record {
  pool = b.pool;
  number = b.number;
  boxes = b.boxes;
  needed = b.needed;
  opening = b.opening;
  kept = b.opening;
  current = b.opening;
  accounts = replicate 64 fresh;
}

-- the docket that a take puts into its cell, or the refusal
abbrev pub taken_docket : {State : Type 0} → (ℕ → List ℕ → List ℕ → Bool) → BoxState State → List ℕ → Result Docket Reading
taken_docket good b bs =
    and_then (accepted good b.pool b.boxes b.needed bs) (λ d. admitted (account_of b.accounts d.account) d)

-- what settles once a docket is in its cell
abbrev pub settled_with : {State : Type 0} → (State → ℕ → List ℕ → Bool) → (State → ℕ → List ℕ → State) → BoxState State → Docket → ℕ × Ledger State
settled_with valid next b d = settle_all valid next (record { state = b.current; accounts = stored b.accounts d })

-- take: how many settled
unfoldable pub take_answer : {State : Type 0} → (State → ℕ → List ℕ → Bool) → (State → ℕ → List ℕ → State) → (ℕ → List ℕ → List ℕ → Bool) → BoxState State → List ℕ → Result ℕ Reading
take_answer valid next good b bs = and_then (taken_docket good b bs) (λ d. Ok (settled_with valid next b d).0)

-- take: the box that is left. A refusal changes nothing; else the book keeps where it is then.
abbrev pub with_ledger : {State : Type 0} → BoxState State → Ledger State → BoxState State
with_ledger b l = record {
  pool = b.pool;
  number = b.number;
  boxes = b.boxes;
  needed = b.needed;
  opening = b.opening;
  kept = l.state;
  current = l.state;
  accounts = l.accounts;
}

unfoldable pub take_box : {State : Type 0} → (State → ℕ → List ℕ → Bool) → (State → ℕ → List ℕ → State) → (ℕ → List ℕ → List ℕ → Bool) → BoxState State → List ℕ → BoxState State
take_box valid next good b bs = if_ok (taken_docket good b bs) (λ d. with_ledger b (settled_with valid next b d).1) b

-- reports: an account's next number, and its waiting docket of a number; none above account 63
abbrev pub next_number : {State : Type 0} → BoxState State → ℕ → Option ℕ
next_number b a = cond (nat_le a 63) (Some (account_of b.accounts a).next) None

abbrev pub waiting_docket : {State : Type 0} → BoxState State → ℕ → ℕ → Option Docket
waiting_docket b a n = cond (nat_le a 63) (waiting (account_of b.accounts a) n) None

-- the buffer after the report of a waiting docket
abbrev pub reported : Option Docket → List ℕ → List ℕ
reported None out = out
reported (Some d) out = encoded d

-- what the calls see of a box value
abbrev pub box_of : {B C State : Type 0} → (B → State) → (B → State) → (B → State) → ColdBox B C → BoxState State
box_of opening kept current b = record {
  pool = b.pool;
  number = b.number;
  boxes = b.boxes;
  needed = b.needed;
  opening = opening b.book;
  kept = kept b.book;
  current = current b.book;
  accounts = b.accounts.rows;
}
