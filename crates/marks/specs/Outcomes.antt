-- How a write that can fail ends.
use Rattle.std.specs.Prelude.{Bool, true, false, List, [], ◌∷◌}
use Rattle.marks.specs.declared.outcome.Outcome.{Outcome}
use Rattle.marks.specs.declared.outcome.Outcome.TheVariants.{Stands, FailsOld, FailsNew}

-- how a coming write ends: with an outcome, or barred, where a store can write nothing and so fails in every write
pub data End : Type 0 where
  ends : Outcome → End
  barred : End

-- the write is answered with yes
abbrev pub stands : Outcome → Bool
stands Stands = true
stands FailsOld = false
stands FailsNew = false

-- what was to be written is there afterwards
abbrev pub lands : Outcome → Bool
lands Stands = true
lands FailsOld = false
lands FailsNew = true

-- a row that is used up counts as one that stands, and a barred write changes nothing
abbrev pub next_outcome : List End → Outcome
next_outcome [] = Stands
next_outcome (ends outcome ∷ rest) = outcome
next_outcome (barred ∷ rest) = FailsOld

abbrev pub rest_of_row : List End → List End
rest_of_row [] = []
rest_of_row (ends outcome ∷ rest) = rest
rest_of_row (barred ∷ rest) = barred ∷ rest
