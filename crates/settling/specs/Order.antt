-- What settling comes to: which dockets settle, and where the book ends, depend on which dockets there are, and not on their order.
use Rattle.std.specs.Prelude.{◌≡◌, ℕ, ◌+◌, ◌<◌, ◌≤◌, Bool, cond, not, ◌&&◌, ◌⊎◌, List, [], ◌∷◌, replicate, is_some, Some, None, Option, ◌==◌, nat_le}
use Rattle.std.specs.Option.{option_map}
use Rattle.std.specs.Bool.{then_some}
use Rattle.docket.specs.declared.Docket.{Docket}
use Rattle.settling.specs.declared.account.Account.{Account}
use Rattle.settling.specs.Window.{fresh, cell, waiting, account_of, stored}
use Rattle.settling.specs.Settle.{Ledger, covered, settle_all}

-- a set of dockets is a list
abbrev pub In : Docket → List Docket → Type 0
In d [] = ⊥
In d (e ∷ es) = (d ≡ e) ⊎ In d es

abbrev pub Within : List Docket → List Docket → Type 0
Within ds es = (d : Docket) → In d ds → In d es

-- at most one docket to an account and number
abbrev pub Unique : List Docket → Type 0
Unique ds = (d e : Docket) → In d ds → In e ds → d.account ≡ e.account → d.number ≡ e.number → d ≡ e

-- a step for each docket, one after another, as long as it can be made
abbrev pub if_made : {P : Type 0} → Option P → (P → Option P) → Option P
if_made None rest = None
if_made (Some p) rest = rest p

abbrev pub in_turn : {P : Type 0} → (P → Docket → Option P) → P → List Docket → Option P
in_turn step p [] = Some p
in_turn step p (d ∷ ds) = if_made (step p d) (λ q. in_turn step q ds)

-- a book's state, and the number that is next for each account
pub record Progress (State : Type 0) : Type 0 where
  pub state : State
  pub due : ℕ → ℕ

abbrev pub begun : {State : Type 0} → State → Progress State
begun opening = record { state = opening; due = λ _. 1 }

abbrev pub raised : (ℕ → ℕ) → ℕ → ℕ → ℕ
raised due a b = cond (a == b) (due b + 1) (due b)

-- a docket can settle where it has its account's next number and is covered
abbrev pub settled : {State : Type 0} → (State → ℕ → List ℕ → Bool) → (State → ℕ → List ℕ → State) → Progress State → Docket → Option (Progress State)
settled valid next p d = cond (d.number == p.due d.account) (option_map (λ s. record { state = s; due = raised p.due d.account }) (covered valid next p.state d)) None

-- an order in which dockets of a set can settle from the opening, and where it ends
pub record Settles {State : Type 0} (valid : State → ℕ → List ℕ → Bool) (next : State → ℕ → List ℕ → State) (opening : State) (ds order : List Docket) (end : Progress State) : Type 0 where
  pub members : Within order ds
  pub legal : in_turn (settled valid next) (begun opening) order ≡ Some end

-- none of a set can settle
abbrev pub Exhausted : {State : Type 0} → (State → ℕ → List ℕ → Bool) → (State → ℕ → List ℕ → State) → Progress State → List Docket → Type 0
Exhausted valid next p ds = (d : Docket) → In d ds → settled valid next p d ≡ None

-- an order that leaves none to settle has all that any order has
abbrev pub Maximal : {State : Type 0} → (State → ℕ → List ℕ → Bool) → (State → ℕ → List ℕ → State) → State → Type 0
Maximal {State} valid next opening =
    (ds xs ys : List Docket) (p q : Progress State) → Unique ds → Settles valid next opening ds xs p → Settles valid next opening ds ys q
    → Exhausted valid next p ds → Within ys xs

-- all orders that leave none to settle have one end
abbrev pub OneEnd : {State : Type 0} → (State → ℕ → List ℕ → Bool) → (State → ℕ → List ℕ → State) → State → Type 0
OneEnd {State} valid next opening =
    (ds xs ys : List Docket) (p q : Progress State) → Unique ds → Settles valid next opening ds xs p → Settles valid next opening ds ys q
    → Exhausted valid next p ds → Exhausted valid next q ds → p ≡ q

-- a docket fits where its account has a free cell for its number
abbrev pub fits : List Account → Docket → Bool
fits accounts d =
    let a = account_of accounts d.account in
    nat_le d.account 63 && (nat_le 1 d.number && (nat_le d.number 1099511627776
    && (nat_le a.next d.number && (nat_le d.number (a.next + 3) && not (is_some (cell a d.number))))))

-- a docket that fits is stored, and then all settle that can
abbrev pub took : {State : Type 0} → (State → ℕ → List ℕ → Bool) → (State → ℕ → List ℕ → State) → Ledger State → Docket → Option (Ledger State)
took valid next l d = then_some (fits l.accounts d) (settle_all valid next (record { state = l.state; accounts = stored l.accounts d })).1

-- dockets taken one after another from the opening and fresh accounts
abbrev pub took_all : {State : Type 0} → (State → ℕ → List ℕ → Bool) → (State → ℕ → List ℕ → State) → State → List Docket → Option (Ledger State)
took_all valid next opening ds = in_turn (took valid next) (record { state = opening; accounts = replicate 64 fresh }) ds

abbrev pub progress_of : {State : Type 0} → Ledger State → Progress State
progress_of l = record { state = l.state; due = λ a. (account_of l.accounts a).next }

abbrev pub is_settled : {State : Type 0} → Ledger State → Docket → Type 0
is_settled l d = d.number < (account_of l.accounts d.account).next

-- what becomes of dockets taken: some order of them has settled, none of the others can, and those wait in their cells
pub record Outcome {State : Type 0} (valid : State → ℕ → List ℕ → Bool) (next : State → ℕ → List ℕ → State) (opening : State) (ds : List Docket) (l : Ledger State) : Type 0 where
  pub unique : Unique ds
  pub order : List Docket
  pub settles : Settles valid next opening ds order (progress_of l)
  pub exhausted : Exhausted valid next (progress_of l) ds
  pub waits : (d : Docket) → In d ds → (account_of l.accounts d.account).next ≤ d.number → waiting (account_of l.accounts d.account) d.number ≡ Some d
  pub was_taken : (a n : ℕ) (d : Docket) → waiting (account_of l.accounts a) n ≡ Some d → In d ds × (d.account ≡ a) × (d.number ≡ n) × ((account_of l.accounts a).next ≤ n)

abbrev pub Outcomes : {State : Type 0} → (State → ℕ → List ℕ → Bool) → (State → ℕ → List ℕ → State) → State → Type 0
Outcomes {State} valid next opening = (ds : List Docket) (l : Ledger State) → took_all valid next opening ds ≡ Some l → Outcome valid next opening ds l

-- the same dockets, taken in any two orders, leave the same ledger
abbrev pub SameOutcome : {State : Type 0} → (State → ℕ → List ℕ → Bool) → (State → ℕ → List ℕ → State) → State → Type 0
SameOutcome {State} valid next opening =
    (ds es : List Docket) (l m : Ledger State) → took_all valid next opening ds ≡ Some l → took_all valid next opening es ≡ Some m
    → Within ds es → Within es ds → l ≡ m

-- what settles settles also where more dockets are taken
abbrev pub MoreSettle : {State : Type 0} → (State → ℕ → List ℕ → Bool) → (State → ℕ → List ℕ → State) → State → Type 0
MoreSettle {State} valid next opening =
    (ds es : List Docket) (l m : Ledger State) → took_all valid next opening ds ≡ Some l → took_all valid next opening es ≡ Some m
    → Within ds es → (d : Docket) → is_settled l d → is_settled m d

-- settling depends only on which dockets there are
pub record SettlingIsOrderFree {State : Type 0} (valid : State → ℕ → List ℕ → Bool) (next : State → ℕ → List ℕ → State) (opening : State) : Type 0 where
  pub maximal : Maximal valid next opening
  pub one_end : OneEnd valid next opening
  pub outcomes : Outcomes valid next opening
  pub same_outcome : SameOutcome valid next opening
  pub more_settle : MoreSettle valid next opening
