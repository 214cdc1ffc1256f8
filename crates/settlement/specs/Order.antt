-- What taking certificates comes to: it depends on which dockets a box took, and not on the order of its certificates.
use Rattle.std.specs.Prelude.{◌≡◌, ℕ, ◌<◌, Bool, List, [], ◌∷◌, Ok, Err, Result}
use Rattle.refusals.specs.Reading.{Reading}
use Rattle.docket.specs.declared.Docket.{Docket}
use Rattle.settling.specs.Window.{account_of}
use Rattle.settling.specs.Order.{In, Within, Progress, Settles}
use Rattle.settlement.specs.Box.{BoxState, taken_docket, take_box}

-- the box after certificates, one after another; those that it refuses are among them
abbrev pub taken_all : {State : Type 0} → (State → ℕ → List ℕ → Bool) → (State → ℕ → List ℕ → State) → (ℕ → List ℕ → List ℕ → Bool) → BoxState State → List (List ℕ) → BoxState State
taken_all valid next good b [] = b
taken_all valid next good b (bs ∷ rest) = taken_all valid next good (take_box valid next good b bs) rest

-- the dockets that it took on the way, in their order
abbrev pub with_taken : Result Docket Reading → List Docket → List Docket
with_taken (Ok d) ds = d ∷ ds
with_taken (Err e) ds = ds

abbrev pub taken_by : {State : Type 0} → (State → ℕ → List ℕ → Bool) → (State → ℕ → List ℕ → State) → (ℕ → List ℕ → List ℕ → Bool) → BoxState State → List (List ℕ) → List Docket
taken_by valid next good b [] = []
taken_by valid next good b (bs ∷ rest) = with_taken (taken_docket good b bs) (taken_by valid next good (take_box valid next good b bs) rest)

-- a docket whose number its account has passed
abbrev pub settled_in : {State : Type 0} → BoxState State → Docket → Type 0
settled_in b d = d.number < (account_of b.accounts d.account).next

-- From a box, for any two lists of certificates in whatever order, repeated and refused ones among them: the same
-- dockets taken leave the same box, more dockets taken settle no fewer, and no order in which dockets of those taken
-- can settle from the opening has one that the box has not settled.
pub record TakingIsOrderFree {State : Type 0} (valid : State → ℕ → List ℕ → Bool) (next : State → ℕ → List ℕ → State) (good : ℕ → List ℕ → List ℕ → Bool) (b : BoxState State) : Type 0 where
  pub same_box :
      (xs ys : List (List ℕ)) → Within (taken_by valid next good b xs) (taken_by valid next good b ys) → Within (taken_by valid next good b ys) (taken_by valid next good b xs)
      → taken_all valid next good b xs ≡ taken_all valid next good b ys
  pub more_settles :
      (xs ys : List (List ℕ)) → Within (taken_by valid next good b xs) (taken_by valid next good b ys)
      → (d : Docket) → settled_in (taken_all valid next good b xs) d → settled_in (taken_all valid next good b ys) d
  pub best :
      (xs : List (List ℕ)) (order : List Docket) (end : Progress State) → Settles valid next b.opening (taken_by valid next good b xs) order end
      → (d : Docket) → In d order → settled_in (taken_all valid next good b xs) d
