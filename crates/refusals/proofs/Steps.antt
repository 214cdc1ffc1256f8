-- What an Ok says of the steps that it came from. Assumes nothing.
use Rattle.std.proofs.Common.{◌≡◌, ℕ, Bool, true, false, cond, Ok, Err, Result, refl, arith}
use Rattle.refusals.specs.Reading.{Reading, and_then, within}
use Rattle.refusals.specs.declared.Layer.{Layer}

pub never : {T E : Type 0} (e : E) (x : T) → Err e ≡ Ok x → ⊥
never e x h = let z : ◌≡◌ {A = ℕ} 0 1 = cc in omega arith

pub ok_then : {T U E : Type 0} (r : Result T E) (f : T → Result U E) (u : U) → and_then r f ≡ Ok u → (t : T) × (r ≡ Ok t) × (f t ≡ Ok u)
ok_then (Ok t) f u h = (t, refl, h)
ok_then (Err e) f u h = absurd (never e u h)

pub ok_unless : {T E : Type 0} (b : Bool) (e : E) (r : Result T E) (x : T) → cond b (Err e) r ≡ Ok x → (b ≡ false) × (r ≡ Ok x)
ok_unless true e r x h = absurd (never e x h)
ok_unless false e r x h = (refl, h)

pub ok_if : {T E : Type 0} (b : Bool) (e : E) (r : Result T E) (x : T) → cond b r (Err e) ≡ Ok x → (b ≡ true) × (r ≡ Ok x)
ok_if true e r x h = (refl, h)
ok_if false e r x h = absurd (never e x h)

pub ok_within : {T : Type 0} (layer : Layer) (place : ℕ) (r : Result T Reading) (x : T) → within layer place r ≡ Ok x → r ≡ Ok x
ok_within layer place (Ok y) x h = h
ok_within layer place (Err e) x h = absurd (never _ x h)
