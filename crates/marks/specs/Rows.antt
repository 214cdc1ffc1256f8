-- A row of outcomes as it is stored.
use Rattle.std.specs.Prelude.{List, [], ◌∷◌, map, drop, Some, None, Option}
use Rattle.marks.specs.Outcomes.{End, ends}
use Rattle.marks.specs.declared.outcome.Outcome.{Outcome}
use Rattle.marks.specs.declared.row.Row.{Row}

-- those in the cells before the first empty one
abbrev pub filled : List (Option Outcome) → List Outcome
filled [] = []
filled (None ∷ cells) = []
filled (Some outcome ∷ cells) = outcome ∷ filled cells

-- how the writes to come end
abbrev pub coming : Row → List End
coming row = map ends (filled (drop row.next row.cells))
