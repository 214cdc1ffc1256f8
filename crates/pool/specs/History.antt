-- A history: the calls that were made on a box and the store beside it, and what has become of both.
use Rattle.std.specs.Prelude.{ℕ, Bool, true, false, cond, List, [], ◌∷◌, ◌++◌, Ok, Err, Result}
use Rattle.refusals.specs.Reading.{Reading}
use Rattle.docket.specs.declared.Docket.{Docket}
use Rattle.marks.specs.Marks.{OwnMarks, ReadsBack}
use Rattle.settlement.specs.Box.{BoxState, restart_box, taken_docket, take_box}
use Rattle.pool.specs.Ready.{StoreState, SlipState, finding, store_after, box_after, released_text}

-- The six calls, with what is handed in: any bytes, any seal, any slip at all.
pub data Call : Type 0 where
  countersign : List ℕ → List ℕ → Call
  release : SlipState → Call
  withhold : SlipState → Call
  join : Call
  take : List ℕ → Call
  restart : Call

-- A box at a moment: whether it is ready, its store, the texts that it has released since setup, and the dockets that
-- it has taken since its last start, the setup or a restart.
pub record Moment (State : Type 0) : Type 0 where
  pub box : BoxState State
  pub ready : Bool
  pub store : StoreState
  pub released : List (List ℕ)
  pub taken : List Docket

-- a list that grows by what was answered
abbrev pub adding : {T : Type 0} → List T → Result T Reading → List T
adding xs (Ok x) = xs ++ x ∷ []
adding xs (Err r) = xs

-- One call. A cold box neither countersigns nor releases: such a call cannot be made, and leaves all as it is.
abbrev pub after_call : {State : Type 0} → (State → ℕ → List ℕ → Bool) → (State → ℕ → List ℕ → State) → (ℕ → List ℕ → List ℕ → Bool) → Moment State → Call → Moment State
after_call valid next good m (countersign bs seal) =
    let found = finding valid next good m.box m.store bs seal in
    cond m.ready
    (record {
      box = box_after m.box found;
      ready = m.ready;
      store = store_after m.store found;
      released = m.released;
      taken = m.taken;
    })
    m
after_call valid next good m (release slip) =
    cond m.ready
    (record {
      box = m.box;
      ready = m.ready;
      store = m.store;
      released = adding m.released (released_text m.box m.store slip);
      taken = m.taken;
    })
    m
after_call valid next good m (withhold slip) = m
after_call valid next good m join = record {
  box = m.box;
  ready = true;
  store = m.store;
  released = m.released;
  taken = m.taken;
}
after_call valid next good m (take bs) = record {
  box = take_box valid next good m.box bs;
  ready = m.ready;
  store = m.store;
  released = m.released;
  taken = adding m.taken (taken_docket good m.box bs);
}
after_call valid next good m restart = record {
  box = restart_box m.box;
  ready = false;
  store = m.store;
  released = m.released;
  taken = [];
}

-- calls, one after another
abbrev pub after_calls : {State : Type 0} → (State → ℕ → List ℕ → Bool) → (State → ℕ → List ℕ → State) → (ℕ → List ℕ → List ℕ → Bool) → Moment State → List Call → Moment State
after_calls valid next good m [] = m
after_calls valid next good m (call ∷ calls) = after_calls valid next good (after_call valid next good m call) calls

-- A history: the store beside the box at setup, with any owner, any row, and any marks that a store may have, and any
-- list of calls.
pub record History : Type 0 where
  pub store : StoreState
  pub own : OwnMarks store.mark
  pub back : (account : ℕ) → ReadsBack (store.mark account)
  pub calls : List Call

-- a box at its setup: cold, with nothing released and nothing taken
abbrev pub at_setup : {State : Type 0} → BoxState State → StoreState → Moment State
at_setup b s = record {
  box = b;
  ready = false;
  store = s;
  released = [];
  taken = [];
}
