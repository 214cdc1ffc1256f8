-- What a box keeps for each account: the next number to settle, and four cells for dockets that wait.
use Rattle.std.specs.Prelude.{◌≡◌, ℕ, ◌+◌, ◌%◌, Bool, true, cond, ◌&&◌, List, [], ◌∷◌, length, Some, None, Option, ◌==◌, nat_le, slice_index_or, slice_set}
use Rattle.docket.specs.declared.Docket.{Docket}
use Rattle.settling.specs.declared.account.Account.{Account}

-- an account as it starts
abbrev pub fresh : Account
fresh = record { next = 1; cells = None ∷ None ∷ None ∷ None ∷ [] }

-- a docket of number n lies in cell n mod 4, so the numbers next to next + 3 have a cell each
abbrev pub cell : Account → ℕ → Option Docket
cell a n = slice_index_or a.cells (n % 4) None

abbrev pub of_number : ℕ → Option Docket → Option Docket
of_number n None = None
of_number n (Some d) = cond (d.number == n) (Some d) None

-- the docket that waits under a number
abbrev pub waiting : Account → ℕ → Option Docket
waiting a n = of_number n (cell a n)

-- a docket goes into its cell
abbrev pub placed : Account → Docket → Account
placed a d = record { next = a.next; cells = slice_set a.cells (d.number % 4) (Some d) }

-- the docket at the next number has settled: the number rises by one and the cell empties
abbrev pub advanced : Account → Account
advanced a = record { next = a.next + 1; cells = slice_set a.cells (a.next % 4) None }

-- the accounts of a pool: one that is not there counts as fresh
abbrev pub account_of : List Account → ℕ → Account
account_of accounts a = slice_index_or accounts a fresh

-- a docket goes into its account's cell, if its number is one that a docket may have
abbrev pub stored : List Account → Docket → List Account
stored accounts d = cond (nat_le d.number 1099511627776) (slice_set accounts d.account (placed (account_of accounts d.account) d)) accounts

abbrev pub advanced_in : List Account → ℕ → List Account
advanced_in accounts a = slice_set accounts a (advanced (account_of accounts a))

-- no number passes the greatest that a docket may have
abbrev pub numbered : Option Docket → Bool
numbered None = true
numbered (Some d) = nat_le d.number 1099511627776

abbrev pub all_numbered : List (Option Docket) → Bool
all_numbered [] = true
all_numbered (c ∷ cs) = numbered c && all_numbered cs

abbrev pub bounded_account : Account → Bool
bounded_account a = nat_le a.next 1099511627777 && (length a.cells == 4 && all_numbered a.cells)

abbrev pub all_bounded : List Account → Bool
all_bounded [] = true
all_bounded (a ∷ rest) = bounded_account a && all_bounded rest

-- what holds of a box's accounts
abbrev pub Bounded : List Account → Type 0
Bounded accounts = (length accounts ≡ 64) × (all_bounded accounts ≡ true)
