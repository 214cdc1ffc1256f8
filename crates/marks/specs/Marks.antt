-- What a store of marks answers and keeps, over its marks by account and its row of outcomes.
use Rattle.std.specs.Prelude.{◌≡◌, ℕ, ◌+◌, ◌≤◌, Bool, true, cond, not, ◌&&◌, List, [], ◌∷◌, length, is_some, IfSome, Some, None, Ok, Option, ◌==◌}
use Rattle.std.specs.Option.{unwrap_or, option_map}
use Rattle.docket.specs.declared.Docket.{Docket}
use Rattle.docket.specs.Layout.{wrong_place, encoded, read_docket}
use Rattle.marks.specs.Outcomes.{End, stands, lands, next_outcome, rest_of_row}

abbrev pub well_formed : Docket → Bool
well_formed d = not (is_some (wrong_place d true))

-- what a mark of an account is
abbrev pub MarkOf : ℕ → Docket → Type 0
MarkOf account d = (wrong_place d true ≡ None) × (d.account ≡ account) × (account ≤ 63)

-- every mark is its account's
abbrev pub OwnMarks : (ℕ → Option Docket) → Type 0
OwnMarks mark = (a : ℕ) (d : Docket) → mark a ≡ Some d → MarkOf a d

-- reading an account's mark: the answer, and what the buffer holds then
abbrev pub read_answer : Option Docket → Bool
read_answer mark = is_some mark

abbrev pub read_buffer : Option Docket → List ℕ → List ℕ
read_buffer mark out = unwrap_or (option_map encoded mark) out

-- the bytes that a mark is read as are read back as that docket
abbrev pub ReadsBack : Option Docket → Type 0
ReadsBack mark = IfSome mark (λ d. read_docket (encoded d) ≡ Ok d)

-- writing a mark: the answer, the marks then and the row then
abbrev pub write_answer : List End → Docket → Bool
write_answer row d = well_formed d && stands (next_outcome row)

abbrev pub mark_after : (ℕ → Option Docket) → List End → Docket → ℕ → Option Docket
mark_after mark row d account = cond (account == d.account && (well_formed d && lands (next_outcome row))) (Some d) (mark account)

abbrev pub row_after : List End → Docket → List End
row_after row d = cond (well_formed d) (rest_of_row row) row

-- a table of marks from account `a` on holds, for each, none or a well-formed docket of that account
abbrev pub is_mark : ℕ → Option Docket → Bool
is_mark a None = true
is_mark a (Some d) = d.account == a && well_formed d

abbrev pub are_marks : ℕ → List (Option Docket) → Bool
are_marks a [] = true
are_marks a (m ∷ ms) = is_mark a m && are_marks (a + 1) ms

abbrev pub Marked : List (Option Docket) → Type 0
Marked marks = (length marks ≡ 64) × (are_marks 0 marks ≡ true)
