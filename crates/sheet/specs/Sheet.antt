-- A sheet of marks: 16 bytes of head, with the owner in byte 0 and the count of records in bytes 2 and 3, then the
-- records, each the 80 bytes of a docket, and zeros up to the end.
use Rattle.std.specs.Prelude.{◌≡◌, ℕ, zero, suc, ◌+◌, ◌*◌, ◌/◌, ◌%◌, Bool, true, false, cond, not, ◌&&◌, List, [], ◌∷◌, ◌++◌, length, take, drop, is_some, is_ok, Some, None, Ok, Err, Option, Result, MatchResult, ◌==◌, nat_le, slice_index, slice_set}
use Rattle.std.specs.List.{between}
use Rattle.std.specs.Option.{option_or}
use Rattle.refusals.specs.Reading.{Reading}
use Rattle.docket.specs.declared.Docket.{Docket}
use Rattle.layout.specs.Bytes.{blank}
use Rattle.docket.specs.Layout.{read_docket, encoded}
use Rattle.marks.specs.Marks.{well_formed, write_answer, mark_after, row_after}
use Rattle.marks.specs.Outcomes.{End, barred}
use Rattle.marks.specs.declared.fault.StoreFault.{StoreFault}
use Rattle.marks.specs.declared.fault.StoreFault.TheVariants.{Layout}
use Rattle.sheet.specs.declared.Parts.{Parts}
use Rattle.sheet.specs.declared.Sheet.{Sheet}

abbrev pub count_of : List ℕ → ℕ
count_of bs = slice_index bs 2 * 256 + slice_index bs 3

-- where the first `n` records end
abbrev pub end_of : ℕ → ℕ
end_of n = 16 + 80 * n

-- of a length that a sheet may have, with space for its records
abbrev pub fit : List ℕ → Bool
fit bs = (nat_le 5216 (length bs) && nat_le (length bs) 65536) && nat_le (end_of (count_of bs)) (length bs)

abbrev pub record_at : ℕ → List ℕ → List ℕ
record_at i bs = between (end_of i) (end_of i + 80) bs

-- `n` records from the i-th on
unfoldable pub records : ℕ → ℕ → List ℕ → List (List ℕ)
records i zero bs = []
records i (suc n) bs = record_at i bs ∷ records (i + 1) n bs

abbrev pub of_account : ℕ → Result Docket Reading → Option Docket
of_account a (Ok d) = cond (d.account == a) (Some d) None
of_account a (Err e) = None

-- the last record of an account
abbrev pub last_of : ℕ → List (List ℕ) → Option Docket
last_of a [] = None
last_of a (r ∷ rs) = option_or (last_of a rs) (of_account a (read_docket r))

-- a record stays where no later one is of its account
abbrev pub stays_by : Result Docket Reading → List (List ℕ) → Bool
stays_by (Ok d) later = not (is_some (last_of d.account later))
stays_by (Err e) later = false

abbrev pub keep_last : List (List ℕ) → List (List ℕ)
keep_last [] = []
keep_last (r ∷ rs) = cond (stays_by (read_docket r) rs) (r ∷ keep_last rs) (keep_last rs)

-- the bytes with another count
abbrev pub counted : ℕ → List ℕ → List ℕ
counted n bs = slice_set (slice_set bs 2 (n / 256)) 3 (n % 256)

-- all records, in their order
abbrev pub contents : List ℕ → List (List ℕ)
contents bs = records 0 (count_of bs) bs

-- with no space for another record, those that have a later one of their account are dropped
abbrev pub with_room : List ℕ → List (List ℕ)
with_room bs = cond (nat_le (end_of (count_of bs) + 80) (length bs)) (contents bs) (keep_last (contents bs))

abbrev pub owner_on : List ℕ → ℕ
owner_on bs = slice_index bs 0

-- an account's mark is its last record; bytes that are no sheet have none, and cannot be written
abbrev pub mark_on : List ℕ → ℕ → Option Docket
mark_on bs a = cond (fit bs) (last_of a (contents bs)) None

-- a sheet's row is empty, so that every write stands
abbrev pub row_on : List ℕ → List End
row_on bs = cond (fit bs) [] (barred ∷ [])

-- well laid: the head's other bytes are zero, every record is a docket, and what follows is zero
abbrev pub head_clear : List ℕ → Bool
head_clear bs = slice_index bs 1 == 0 && blank (between 4 16 bs)

abbrev pub all_read : List (List ℕ) → Bool
all_read [] = true
all_read (r ∷ rs) = is_ok (read_docket r) && all_read rs

abbrev pub rest_clear : List ℕ → Bool
rest_clear bs = blank (drop (end_of (count_of bs)) bs)

abbrev pub well_laid : List ℕ → Bool
well_laid bs = fit bs && (head_clear bs && (all_read (contents bs) && rest_clear bs))

-- bytes that a sheet may have, and their parts: the head, the records and what follows them
pub record IsMadeOf (bs : List ℕ) (parts : Parts) : Type 0 where
  pub fits : fit bs ≡ true
  pub head : parts.head.now ≡ take 16 bs
  pub rows : parts.records.now ≡ contents bs
  pub rest : parts.rest.now ≡ drop (end_of (count_of bs)) bs

-- in the parts the head's other bytes are zero, every record is a docket, and what follows is zero
abbrev pub laid_out : Parts → Bool
laid_out parts = head_clear parts.head.now && (all_read parts.records.now && blank parts.rest.now)

-- the head is as it was, but for the count
abbrev pub SameHead : List ℕ → List ℕ → Type 0
SameHead bs cs = (owner_on cs ≡ owner_on bs) × (head_clear cs ≡ head_clear bs)

-- a docket is added after the last record
abbrev pub records_after : List ℕ → Docket → List (List ℕ)
records_after bs d = cond (well_formed d && fit bs) (with_room bs ++ encoded d ∷ []) (contents bs)

-- the bytes before and after a write: what they hold and mean then, and that they are still well laid
pub record Wrote (bs : List ℕ) (d : Docket) (cs : List ℕ) : Type 0 where
  pub same : (well_formed d && fit bs) ≡ false → cs ≡ bs
  pub size : length cs ≡ length bs
  pub rows : contents cs ≡ records_after bs d
  pub owner : owner_on cs ≡ owner_on bs
  pub row : row_on cs ≡ row_after (row_on bs) d
  pub marks : (a : ℕ) → mark_on cs a ≡ mark_after (mark_on bs) (row_on bs) d a
  pub laid : well_laid bs ≡ true → well_laid cs ≡ true

-- one write after another
abbrev pub Written : List ℕ → List Docket → List ℕ → Type 0
Written bs [] cs = cs ≡ bs
Written bs (d ∷ ds) cs = (mid : List ℕ) × (Wrote bs d mid × Written mid ds cs)

-- the marks after writes that all stand
abbrev pub marks_after : (ℕ → Option Docket) → List Docket → ℕ → Option Docket
marks_after mark [] = mark
marks_after mark (d ∷ ds) = marks_after (mark_after mark [] d) ds

-- the bytes that a sheet was opened over
abbrev pub lent : Sheet → List ℕ
lent sheet = sheet.bytes.now

-- a well-laid sheet is opened over its bytes, and any other refused
abbrev pub OpensSheet : List ℕ → Result Sheet StoreFault → Type 0
OpensSheet bytes answer =
    MatchResult answer
    (λ sheet. (well_laid bytes ≡ true) × (lent sheet ≡ bytes))
    (λ fault. (well_laid bytes ≡ false) × (fault ≡ Layout))

-- writes leave a sheet well laid and its row empty, so that the next docket fails only if it is malformed; opened again,
-- it has the owner that it had and the marks that were written last
pub record Stays (bs : List ℕ) (ds : List Docket) (cs : List ℕ) : Type 0 where
  pub laid : well_laid cs ≡ true
  pub row : row_on cs ≡ []
  pub next : (d : Docket) → write_answer (row_on cs) d ≡ well_formed d
  pub opened : (again : Result Sheet StoreFault) → OpensSheet cs again
      → MatchResult again (λ sheet. (owner_on (lent sheet) ≡ owner_on bs) × ((a : ℕ) → mark_on (lent sheet) a ≡ marks_after (mark_on bs) ds a)) (λ _. ⊥)

-- so it is after any list of writes to a well-laid sheet
abbrev pub Lasts : List ℕ → Type 0
Lasts bs = well_laid bs ≡ true → (ds : List Docket) (cs : List ℕ) → Written bs ds cs → Stays bs ds cs
