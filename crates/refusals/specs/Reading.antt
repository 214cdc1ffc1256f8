-- How a fault is read: which layer refuses, why, at which place, and what it found inside.
use Rattle.std.specs.Prelude.{ℕ, Ok, Err, Result}
use Rattle.refusals.specs.declared.Layer.{Layer}
use Rattle.refusals.specs.declared.Cause.{Cause}
use Rattle.refusals.specs.declared.Refusal.{Refusal}
use Rattle.refusals.specs.Cause.{cause_number}

-- `found` is a fault that a layer found itself: the layer, the cause and the place.
-- `around` is the fault of a layer whose part was refused: the layer, the place where the part starts,
-- and the part's own fault.
pub data Reading : Type 0 where
  found : Layer → Cause → ℕ → Reading
  around : Layer → ℕ → Reading → Reading

-- an outer fault repeats the cause of the inner one
abbrev pub cause : Reading → Cause
cause (found layer why place) = why
cause (around layer place inner) = cause inner

-- the number under which it is told
abbrev pub number : Reading → ℕ
number r = cause_number (cause r)

-- what the outermost layer tells
abbrev pub outermost : Reading → Refusal
outermost (found layer why place) = record { layer = layer; cause = why; place = place }
outermost (around layer place inner) = record { layer = layer; cause = cause inner; place = place }

-- an answer, with its fault read
abbrev pub judged : {T E : Type 0} → (E → Reading) → Result T E → Result T Reading
judged reading (Ok x) = Ok x
judged reading (Err e) = Err (reading e)

-- one step after another: the first refusal is the answer
abbrev pub and_then : {T U E : Type 0} → Result T E → (T → Result U E) → Result U E
and_then (Ok x) f = f x
and_then (Err e) f = Err e

-- what is left after a call: changed where it answers, and as it was where it refuses
abbrev pub if_ok : {T E S : Type 0} → Result T E → (T → S) → S → S
if_ok (Ok x) change same = change x
if_ok (Err e) change same = same

-- a part that starts at `place` is refused: so is the whole
abbrev pub within : {T : Type 0} → Layer → ℕ → Result T Reading → Result T Reading
within layer place (Ok x) = Ok x
within layer place (Err r) = Err (around layer place r)
