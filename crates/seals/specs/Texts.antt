-- Who seals, and which text.
use Rattle.std.specs.Prelude.{ℕ, ◌+◌, List, ◌∷◌}

-- parties 0 to 63 are yards; the boxes follow
abbrev pub box_party : ℕ → ℕ
box_party number = 64 + number

-- the text that a box seals for a docket
abbrev pub countersign_text : ℕ → List ℕ → List ℕ
countersign_text number docket = 2 ∷ number ∷ docket
