-- What a table store means, and how it starts.
use Rattle.std.specs.Prelude.{◌≡◌, ℕ, ◌<◌, ◌≤◌, List, map, length, None, Option, Result, MatchResult, slice_index_or}
use Rattle.docket.specs.declared.Docket.{Docket}
use Rattle.marks.specs.Outcomes.{End, ends}
use Rattle.marks.specs.Rows.{coming}
use Rattle.marks.specs.declared.outcome.Outcome.{Outcome}
use Rattle.marks.specs.declared.fault.StoreFault.{StoreFault}
use Rattle.marks.specs.declared.fault.StoreFault.TheVariants.{Layout}
use Rattle.marks.specs.declared.table.TableStore.{TableStore}

abbrev pub owner_in : TableStore → ℕ
owner_in store = store.owner

abbrev pub mark_in : TableStore → ℕ → Option Docket
mark_in store account = slice_index_or store.marks account None

abbrev pub row_in : TableStore → List End
row_in store = coming store.row

-- a store starts with no marks; a row of more than 64 outcomes is refused
abbrev pub Starts : ℕ → List Outcome → Result TableStore StoreFault → Type 0
Starts owner row answer =
    MatchResult answer
    (λ store. (length row ≤ 64) × (owner_in store ≡ owner) × ((a : ℕ) → mark_in store a ≡ None) × (row_in store ≡ map ends row))
    (λ fault. (64 < length row) × (fault ≡ Layout))
