-- The pallet book: 64 balances, and lines that move pallets from one account to another.
use Rattle.std.specs.Prelude.{ℕ, ◌+◌, ◌-◌, ◌^◌, Bool, false, cond, not, ◌&&◌, List, Some, None, Ok, Err, sum, Option, Result, ◌==◌, nat_le, slice_index, slice_set}
use Rattle.book.specs.Line.{kind, zeros, last_number}
use Rattle.book.specs.declared.pallets.Transfer.{Transfer}
use Rattle.refusals.specs.Reading.{Reading, found}
use Rattle.refusals.specs.declared.Layer.TheVariants.{Book}
use Rattle.refusals.specs.declared.Cause.TheVariants as cause

-- kind 1 alone
abbrev pub pallet_kinds : ℕ → Bool
pallet_kinds k = k == 1

abbrev pub balance : List ℕ → ℕ → ℕ
balance balances account = slice_index balances account

abbrev pub credit : List ℕ → ℕ → ℕ → List ℕ
credit balances account amount = slice_set balances account (balance balances account + amount)

abbrev pub debit : List ℕ → ℕ → ℕ → List ℕ
debit balances account amount = slice_set balances account (balance balances account - amount)

abbrev pub transfer : List ℕ → ℕ → ℕ → ℕ → List ℕ
transfer balances issuer receiver amount = credit (debit balances issuer amount) receiver amount

-- the form of a line of kind 1
abbrev pub well_formed : List ℕ → Bool
well_formed line = pallet_kinds (kind line) && nat_le (slice_index line 1) 63 && zeros 2 6 line && nat_le 1 (last_number line) && nat_le (last_number line) (2 ^ 40)

-- what a line of the right form says
abbrev pub transfer_in : List ℕ → Option Transfer
transfer_in line = cond (well_formed line) (Some (record { receiver = slice_index line 1; amount = last_number line })) None

-- the issuer is an account, not the receiver, and its balance is at least the amount
abbrev pub covered : List ℕ → ℕ → Option Transfer → Bool
covered balances issuer None = false
covered balances issuer (Some t) = nat_le issuer 63 && not (t.receiver == issuer) && nat_le t.amount (balance balances issuer)

abbrev pub moved : List ℕ → ℕ → Option Transfer → List ℕ
moved balances issuer None = balances
moved balances issuer (Some t) = transfer balances issuer t.receiver t.amount

abbrev pub pallet_valid : List ℕ → ℕ → List ℕ → Bool
pallet_valid balances issuer line = covered balances issuer (transfer_in line)

abbrev pub pallet_next : List ℕ → ℕ → List ℕ → List ℕ
pallet_next balances issuer line = moved balances issuer (transfer_in line)

-- an account's balance, or none above account 63
abbrev pub pallet_answer : List ℕ → ℕ → Option ℕ
pallet_answer balances account = cond (nat_le account 63) (Some (balance balances account)) None

-- the three states of a book
pub record States : Type 0 where
  pub opening : List ℕ
  pub kept : List ℕ
  pub current : List ℕ

-- a sum of at most 2^40 is set up
abbrev pub set_up : List ℕ → Result States Reading
set_up balances = cond (nat_le (sum balances) (2 ^ 40)) (Ok (record { opening = balances; kept = balances; current = balances })) (Err (found Book cause.Overfull 0))
