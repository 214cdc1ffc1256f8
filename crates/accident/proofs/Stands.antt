-- How boxes of the story are set up. Assumes nothing.
use Rattle.std.proofs.Common.{◌≡◌, ℕ, Bool, true, false, cond, ltb, List, map, None, Ok, Err, Option, refl, arith}
use mathlib.Core.Path.{fun_ext}
use Rattle.docket.specs.declared.Docket.{Docket}
use Rattle.refusals.specs.Reading.{Reading}
use Rattle.settlement.specs.Box.{BoxState, started_box, set_up}
use Rattle.marks.specs.Outcomes.{End, ends}
use Rattle.marks.specs.declared.outcome.Outcome.{Outcome}
use Rattle.accident.specs.Story.{opening_balances, started}

yes_since : {T E : Type 0} (t : Bool) (x y : T) (e : E) → Ok y ≡ cond t (Ok x) (Err e) → (t ≡ true) × (y ≡ x)
yes_since true x y e h = (refl, cc)
yes_since false x y e h = let z : ◌≡◌ {A = ℕ} 0 1 = cc in absurd (omega arith)

no_since : {T E : Type 0} (t : Bool) (x : T) (d e : E) → Err d ≡ cond t (Ok x) (Err e) → t ≡ false
no_since true x d e h = let z : ◌≡◌ {A = ℕ} 0 1 = cc in absurd (omega arith)
no_since false x d e h = refl

-- one box of four may be faulty
module _ (number : ℕ) (opening : List ℕ) where
  pub set_up_started : (b : BoxState (List ℕ)) → Ok b ≡ set_up 7 number 1 opening → (ltb number 4 ≡ true) × (b ≡ started_box 7 number 1 opening)
  unfolding set_up
  set_up_started b h = yes_since (ltb number 4) _ b _ h

  pub set_up_refused : (r : Reading) → Err r ≡ set_up 7 number 1 opening → ltb number 4 ≡ false
  unfolding set_up
  set_up_refused r h = no_since (ltb number 4) _ r _ h

-- a box at its start beside an unmarked store
pub stands_started :
    (number owner : ℕ) (row : List Outcome) (opening : List ℕ) (b : BoxState (List ℕ)) (mark : ℕ → Option Docket) (coming : List End)
    → b ≡ started_box 7 number 1 opening → opening ≡ opening_balances → owner ≡ number → ((a : ℕ) → mark a ≡ None) → coming ≡ map ends row
    → record { box = b; store = record { owner = owner; mark = mark; row = coming } } ≡ started number row
stands_started number owner row opening b mark coming s o w m r =
    let e : b ≡ started_box 7 number 1 opening_balances = cc in
    λ i. record { box = e i; store = record { owner = w i; mark = fun_ext m i; row = r i } }
