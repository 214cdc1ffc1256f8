-- The loop over a stream's certificates. Assumes nothing.
use Rattle.std.proofs.Common.{◌≡◌, ℕ, zero, suc, ◌+◌, ◌-◌, ◌≤◌, Bool, true, false, cond, ltb, List, [], ◌∷◌, length, take, drop, Some, None, Ok, Err, Option, Result, sym, refl, ap, ◌∙◌, arith}
use Rattle.std.specs.List.{between}
use Rattle.std.proofs.lemmas.List.{length-drop, drop-drop}
use Rattle.std.proofs.lemmas.Slice.{between_to_end}
use Rattle.std.proofs.lemmas.Bool.{ltb-false}
use Rattle.refusals.specs.Reading.{Reading}
use Rattle.settlement.specs.Box.{BoxState, set_up}
use Rattle.workbench.specs.Bench.{started}
use Rattle.workbench.specs.Stream.{first_size, frame_size, then_frames, frames_up_to, certificates_in}

some_since : (a b : Bool) (n m : ℕ) → cond a None (cond b None (Some n)) ≡ Some m → (b ≡ false) × (n ≡ m)
some_since true b n m e = let z : ◌≡◌ {A = ℕ} 0 1 = cc in absurd (omega arith)
some_since false true n m e = let z : ◌≡◌ {A = ℕ} 0 1 = cc in absurd (omega arith)
some_since false false n m e = (refl, cc)

frame_within : (stream : List ℕ) (n : ℕ) → frame_size stream ≡ Some n → 2 + n ≤ length stream
frame_within stream n e =
    let s = some_since (ltb (length stream) 2) (ltb (length stream) (2 + first_size stream)) (first_size stream) n e in
    let l = ltb-false (length stream) (2 + first_size stream) s.0 in
    let q = s.1 in
    omega arith

none_of : (stream : List ℕ) → length stream ≤ 0 → frame_size stream ≡ None
none_of [] h = refl
none_of (x ∷ xs) h = absurd (omega arith)

enough_by :
    (k j : ℕ) (stream : List ℕ) (o : Option ℕ) → o ≡ frame_size stream → length stream ≤ suc k → length stream ≤ suc j
    → ((s : List ℕ) → length s ≤ k → length s ≤ j → frames_up_to k s ≡ frames_up_to j s)
    → then_frames (frames_up_to k) stream o ≡ then_frames (frames_up_to j) stream o
enough_by k j stream None e h i more = refl
enough_by k j stream (Some n) e h i more =
    let w = frame_within stream n (sym e) in
    let l = length-drop (2 + n) stream in
    ap (λ (r : List (List ℕ)). between 2 (2 + n) stream ∷ r) (more (drop (2 + n) stream) (omega arith) (omega arith))

-- the stream's length is enough, and more does no harm
enough : (k j : ℕ) (stream : List ℕ) → length stream ≤ k → length stream ≤ j → frames_up_to k stream ≡ frames_up_to j stream
enough zero zero stream h i = refl
enough zero (suc j) stream h i = sym (ap (then_frames (frames_up_to j) stream) (none_of stream h))
enough (suc k) zero stream h i = ap (then_frames (frames_up_to k) stream) (none_of stream i)
enough (suc k) (suc j) stream h i = enough_by k j stream (frame_size stream) refl h i (λ s. enough k j s)

-- a certificate off the front
pub frames_more :
    (stream certificate rest : List ℕ) (n : ℕ) → Some n ≡ frame_size stream
    → certificate ≡ take n (between 2 (length stream) stream) → rest ≡ drop n (between 2 (length stream) stream)
    → certificates_in stream ≡ certificate ∷ certificates_in rest
unfolding certificates_in
frames_more stream certificate rest n e p q =
    let w = frame_within stream n (sym e) in
    let l = length-drop (2 + n) stream in
    let f : frames_up_to (length stream) stream ≡ frames_up_to (suc (length stream)) stream = enough (length stream) (suc (length stream)) stream (omega arith) (omega arith) in
    let g : frames_up_to (suc (length stream)) stream ≡ between 2 (2 + n) stream ∷ frames_up_to (length stream) (drop (2 + n) stream) = ap (then_frames (frames_up_to (length stream)) stream) (sym e) in
    let h : frames_up_to (length stream) (drop (2 + n) stream) ≡ frames_up_to (length (drop (2 + n) stream)) (drop (2 + n) stream) = enough (length stream) (length (drop (2 + n) stream)) (drop (2 + n) stream) (omega arith) (omega arith) in
    let b : between 2 (length stream) stream ≡ drop 2 stream = between_to_end stream 2 (length stream) (omega arith) in
    let m : n ≡ 2 + n - 2 = omega arith in
    let x : certificate ≡ between 2 (2 + n) stream = p ∙ (ap (take n) b ∙ ap (λ k. take k (drop 2 stream)) m) in
    let y : rest ≡ drop (2 + n) stream = q ∙ (ap (drop n) b ∙ drop-drop n 2 stream) in
    f ∙ (g ∙ (λ i. sym x i ∷ (h ∙ ap (λ (s : List ℕ). frames_up_to (length s) s) (sym y)) i))

pub frames_none : (stream : List ℕ) → None ≡ frame_size stream → certificates_in stream ≡ []
unfolding certificates_in
frames_none stream e =
    let f : frames_up_to (length stream) stream ≡ frames_up_to (suc (length stream)) stream = enough (length stream) (suc (length stream)) stream (omega arith) (omega arith) in
    f ∙ ap (then_frames (frames_up_to (length stream)) stream) (sym e)

-- setup of box 0 in a pool of four
pub never_refused : {State : Type 0} (o : State) (r : Reading) → Err r ≡ set_up 7 0 1 o → ⊥
unfolding set_up
never_refused o r e = let z : ◌≡◌ {A = ℕ} 0 1 = cc in omega arith

pub set_up_started : {State : Type 0} (o : State) (b : BoxState State) → Ok b ≡ set_up 7 0 1 o → b ≡ started o
unfolding set_up
set_up_started {State} o b e = ap (ok_or b) e
  where
    ok_or : BoxState State → Result (BoxState State) Reading → BoxState State
    ok_or d (Ok x) = x
    ok_or d (Err r) = d
