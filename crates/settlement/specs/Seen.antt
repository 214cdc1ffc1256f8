-- What the calls see of a box value, and what they answer and leave, by what its book and its checker show.
use Rattle.std.specs.Prelude.{◌≡◌, ℕ, List, Ok, Err, Result}
use Rattle.refusals.specs.Reading.{Reading}
use Rattle.book.specs.declared.Book.{Ghosts}
use Rattle.seals.specs.declared.Checker.{Ghosts as Judging}
use Rattle.docket.specs.declared.Docket.{Docket}
use Rattle.settling.specs.Settle.{Ledger}
use Rattle.settlement.specs.declared.cold.ColdBox.{ColdBox}
use Rattle.settlement.specs.declared.cold.SetUpRefused.{SetUpRefused}
use Rattle.settlement.specs.Faults.{box_reading}
use Rattle.settlement.specs.Box.{BoxState, box_of, taken_docket, settled_with, take_answer, take_box}
use Rattle.settlement.specs.Examine.{judged_docket, examined}

-- what the calls see of a box value
abbrev pub state_of : {B C Q A : Type 0} (k : Ghosts B Q A) → ColdBox B C → BoxState k.State
state_of k b = box_of k.opening k.kept k.current b

-- a box value has come to a state, with the checker that it had
pub record ComesTo {B C Q A : Type 0} (k : Ghosts B Q A) (old new : ColdBox B C) (to : BoxState k.State) : Type 0 where
  pub state : state_of k new ≡ to
  pub checker : new.checker ≡ old.checker

-- an answer of setup, by what the calls see of the box and by its fault's reading
abbrev pub set_up_seen : {B C Q A : Type 0} (k : Ghosts B Q A) → Result (ColdBox B C) (SetUpRefused B C) → Result (BoxState k.State) Reading
set_up_seen k (Ok b) = Ok (state_of k b)
set_up_seen k (Err e) = Err (box_reading e.fault)

-- take, of a box value: the docket that goes into a cell or the refusal, what settles then, the answer, and the box
-- that is left
abbrev pub taken_docket_of : {B C Q A : Type 0} → Ghosts B Q A → Judging C → ColdBox B C → List ℕ → Result Docket Reading
taken_docket_of k g b bs = taken_docket (g.good b.checker) (state_of k b) bs

abbrev pub settled_with_of : {B C Q A : Type 0} (k : Ghosts B Q A) → ColdBox B C → Docket → ℕ × Ledger k.State
settled_with_of k b d = settled_with k.valid k.next (state_of k b) d

abbrev pub take_answer_of : {B C Q A : Type 0} → Ghosts B Q A → Judging C → ColdBox B C → List ℕ → Result ℕ Reading
take_answer_of k g b bs = take_answer k.valid k.next (g.good b.checker) (state_of k b) bs

abbrev pub take_box_of : {B C Q A : Type 0} (k : Ghosts B Q A) → Judging C → ColdBox B C → List ℕ → BoxState k.State
take_box_of k g b bs = take_box k.valid k.next (g.good b.checker) (state_of k b) bs

-- examine, of a box value
abbrev pub judged_docket_of : {B C Q A : Type 0} → Ghosts B Q A → Judging C → ColdBox B C → List ℕ → List ℕ → Docket → Result Docket Reading
judged_docket_of k g b bs seal d = judged_docket (g.good b.checker) (state_of k b) bs seal d

abbrev pub examined_of : {B C Q A : Type 0} → Ghosts B Q A → Judging C → ColdBox B C → List ℕ → List ℕ → Result Docket Reading
examined_of k g b bs seal = examined (g.good b.checker) (state_of k b) bs seal
