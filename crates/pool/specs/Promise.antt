-- The pool's promise.
use Rattle.std.specs.Prelude.{◌≡◌, ℕ, ◌+◌, ◌*◌, ◌<◌, ◌≤◌, Bool, ◌⊎◌, List, [], ◌∷◌, ◌++◌, length, Ok}
use Rattle.docket.specs.declared.Docket.{Docket}
use Rattle.docket.specs.Layout.{encoded}
use Rattle.certificate.specs.declared.table.Entry.{Entry}
use Rattle.certificate.specs.Contents.{Contents}
use Rattle.certificate.specs.Layout.{read_certificate}
use Rattle.seals.specs.Texts.{countersign_text}
use Rattle.settling.specs.Order.{In, Within}
use Rattle.settlement.specs.Accept.{accepted}
use Rattle.settlement.specs.Box.{BoxState, started_box, next_number, waiting_docket}
use Rattle.settlement.specs.Order.{settled_in}
use Rattle.pool.specs.History.{Moment, Call, History, at_setup, after_calls}

abbrev pub Among : {T : Type 0} → T → List T → Type 0
Among x [] = ⊥
Among x (y ∷ ys) = (x ≡ y) ⊎ Among x ys

-- A pool: f from 1 to 4, one pool number and one checker for all; at most f boxes are faulty, and every other has a
-- history. Nothing is said of the faulty ones: their histories are never looked at.
pub record Pool : Type 0 where
  pub f : ℕ
  pub least : 1 ≤ f
  pub most : f ≤ 4
  pub number : ℕ
  pub small : number < 4294967296
  pub good : ℕ → List ℕ → List ℕ → Bool
  pub faulty : List ℕ
  pub few : length faulty ≤ f
  pub history : ℕ → History

-- there are 3f + 1 boxes, and 2f + 1 countersigns make a certificate
abbrev pub boxes : Pool → ℕ
boxes p = 3 * p.f + 1

abbrev pub needed : Pool → ℕ
needed p = 2 * p.f + 1

abbrev pub Faithful : Pool → ℕ → Type 0
Faithful p b = (b < boxes p) × (Among b p.faulty → ⊥)

-- bytes that every box of the pool accepts, and their docket
abbrev pub Accepted : Pool → List ℕ → Docket → Type 0
Accepted p bs d = accepted p.good p.number (boxes p) (needed p) bs ≡ Ok d

-- a box after calls from its setup
abbrev pub moment_after : {State : Type 0} → (State → ℕ → List ℕ → Bool) → (State → ℕ → List ℕ → State) → State → Pool → ℕ → List Call → Moment State
moment_after valid next opening p b calls = after_calls valid next p.good (at_setup (started_box p.number b p.f opening) (p.history b).store) calls

-- a moment of a box's history: some of its calls, from the first on, have been made
pub record MomentOf {State : Type 0} (valid : State → ℕ → List ℕ → Bool) (next : State → ℕ → List ℕ → State) (opening : State) (p : Pool) (b : ℕ) (m : Moment State) : Type 0 where
  pub before : List Call
  pub later : List Call
  pub whole : (p.history b).calls ≡ before ++ later
  pub is : m ≡ moment_after valid next opening p b before

-- a text that a box has released, ever since its setup
abbrev pub Released : {State : Type 0} → (State → ℕ → List ℕ → Bool) → (State → ℕ → List ℕ → State) → State → Pool → ℕ → List ℕ → Type 0
Released valid next opening p b text = Among text (moment_after valid next opening p b (p.history b).calls).released

-- The premise on seals: where an accepted certificate has an entry of a faithful box, that box has released exactly
-- the text that the entry seals.
abbrev pub SealsHold : {State : Type 0} → (State → ℕ → List ℕ → Bool) → (State → ℕ → List ℕ → State) → State → Pool → Type 0
SealsHold valid next opening p =
    (bs : List ℕ) (k : Contents) → read_certificate (boxes p) bs ≡ Ok k → Accepted p bs k.docket
    → (e : Entry) → Among e k.entries → Faithful p e.signer.number
    → Released valid next opening p e.signer.number (countersign_text e.signer.number (encoded k.docket))

-- two boxes are alike: in the book's current state, in every next number and in every waiting docket
pub record Alike {State : Type 0} (b c : BoxState State) : Type 0 where
  pub current : b.current ≡ c.current
  pub next_numbers : (account : ℕ) → next_number b account ≡ next_number c account
  pub waiting : (account number : ℕ) → waiting_docket b account number ≡ waiting_docket c account number

-- a docket that a box has settled: it was taken since the last start, and its number is below its account's next
abbrev pub SettledAt : {State : Type 0} → Moment State → Docket → Type 0
SettledAt m d = In d m.taken × settled_in m.box d

-- What a pool's boxes agree on, at any moments of theirs.
pub record Agreement {State : Type 0} (valid : State → ℕ → List ℕ → Bool) (next : State → ℕ → List ℕ → State) (opening : State) (p : Pool) : Type 0 where
  -- no two accepted certificates share account and number and differ in their dockets
  pub one_docket : (xs ys : List ℕ) (d e : Docket) → Accepted p xs d → Accepted p ys e → d.account ≡ e.account → d.number ≡ e.number → d ≡ e
  -- faithful boxes that have taken the same dockets since their last starts, in whatever orders, are alike
  pub alike :
      (b c : ℕ) (m n : Moment State) → Faithful p b → Faithful p c → MomentOf valid next opening p b m → MomentOf valid next opening p c n
      → Within m.taken n.taken → Within n.taken m.taken → Alike m.box n.box
  -- a faithful box that has taken all that another has taken has settled all that the other has settled
  pub settles_no_less :
      (b c : ℕ) (m n : Moment State) → Faithful p b → Faithful p c → MomentOf valid next opening p b m → MomentOf valid next opening p c n
      → Within m.taken n.taken → (d : Docket) → SettledAt m d → SettledAt n d

-- The promise: every pool agrees, if seals hold.
abbrev pub PoolsAgree : {State : Type 0} → (State → ℕ → List ℕ → Bool) → (State → ℕ → List ℕ → State) → State → Type 0
PoolsAgree valid next opening = (p : Pool) → SealsHold valid next opening p → Agreement valid next opening p
