-- Settling as a book value sees it, by what its kind of book shows (`Book`).
use Rattle.std.specs.Prelude.{◌≡◌, ℕ, List, None, Option}
use Rattle.book.specs.declared.Book.{Ghosts}
use Rattle.docket.specs.declared.Docket.{Docket}
use Rattle.settling.specs.declared.account.Account.{Account}
use Rattle.settling.specs.Settle.{Ledger, covered, uncovered, ready, lowest_ready, settle_one, settle_all}

-- a book keeps the state that it is in
abbrev pub Level : {B Q A : Type 0} (k : Ghosts B Q A) → B → Type 0
Level k b = k.kept b ≡ k.current b

-- a book has come to a state and keeps it, over the opening that it had
pub record Moved {B Q A : Type 0} (k : Ghosts B Q A) (old new : B) (to : k.State) : Type 0 where
  pub current : k.current new ≡ to
  pub kept : Level k new
  pub opening : k.opening new ≡ k.opening old

-- a book's current state beside accounts
abbrev pub ledger_of : {B Q A : Type 0} (k : Ghosts B Q A) → B → List Account → Ledger k.State
ledger_of k b accounts = record { state = k.current b; accounts = accounts }

-- in its current state: what a docket's lines make of it, the first line that is not valid in its turn, what an
-- account's next docket makes of it, and the lowest account of which that can be said
abbrev pub covered_in : {B Q A : Type 0} (k : Ghosts B Q A) → B → Docket → Option k.State
covered_in k b d = covered k.valid k.next (k.current b) d

abbrev pub uncovered_in : {B Q A : Type 0} (k : Ghosts B Q A) → B → Docket → Option ℕ
uncovered_in k b d = uncovered k.valid k.next (k.current b) d

abbrev pub ready_in : {B Q A : Type 0} (k : Ghosts B Q A) → B → Account → Option k.State
ready_in k b a = ready k.valid k.next (k.current b) a

abbrev pub lowest_in : {B Q A : Type 0} (k : Ghosts B Q A) → B → List Account → Option (ℕ × k.State)
lowest_in k b accounts = lowest_ready k.valid k.next 0 (k.current b) accounts

-- all that can settle does: how many did, and what is left
abbrev pub all_settled_in : {B Q A : Type 0} (k : Ghosts B Q A) → B → List Account → ℕ × Ledger k.State
all_settled_in k b accounts = settle_all k.valid k.next (ledger_of k b accounts)

-- none that waits can settle
abbrev pub NoneSettles : {B Q A : Type 0} (k : Ghosts B Q A) → B → List Account → Type 0
NoneSettles k b accounts = settle_one k.valid k.next (ledger_of k b accounts) ≡ None
