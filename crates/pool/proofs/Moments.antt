-- What holds at every moment of a box's history. Assumes nothing.
use Rattle.std.proofs.Common.{◌≡◌, ℕ, ◌<◌, Bool, true, false, cond, not, eqb, ◌⊎◌, List, [], ◌∷◌, ◌++◌, map, Some, None, Ok, Err, Option, Result, sym, refl, ap, ◌∙◌, subst, inl, inr, ⊎_elim, arith}
use Rattle.std.proofs.lemmas.Option.{same_Some}
use Rattle.refusals.specs.Reading.{Reading, found}
use Rattle.refusals.specs.declared.Layer.TheVariants as layer
use Rattle.refusals.specs.declared.Cause.{Cause}
use Rattle.refusals.specs.declared.Cause.TheVariants as cause
use Rattle.docket.specs.declared.Docket.{Docket}
use Rattle.docket.specs.Layout.{encoded, read_docket}
use Rattle.seals.specs.Texts.{countersign_text}
use Rattle.settling.specs.Order.{In, Unique, took}
use Rattle.settling.proofs.OrderRuns.{Run, run_push}
use Rattle.settlement.specs.Box.{BoxState, started_box, restart_box, taken_docket, take_box}
use Rattle.settlement.proofs.Order.{ledger_of, Level, took_one, box_same, level_one}
use Rattle.pool.specs.Ready.{StoreState, SlipState, Finding, refuses, marked, not_covered, to_write, finding, box_after, store_after, text_of, released_text}
use Rattle.pool.specs.History.{Call, countersign, release, withhold, join, take, restart, Moment, adding, after_call, after_calls}
use Rattle.pool.proofs.Marks.{OwnAndRead, Behind, own_written, behind_written, countersign_leaves}

-- lists that grow at their end
in_last : (x d : Docket) (ds : List Docket) → In x (ds ++ d ∷ []) → In x ds ⊎ (x ≡ d)
in_last x d [] (inl e) = inr e
in_last x d [] (inr i) = elim i [ ]
in_last x d (y ∷ ds) (inl e) = inl (inl e)
in_last x d (y ∷ ds) (inr i) = ⊎_elim (λ j. inl (inr j)) inr (in_last x d ds i)

map_last : {T : Type 0} (f : Docket → T) (ds : List Docket) (d : Docket) → map f ds ++ f d ∷ [] ≡ map f (ds ++ d ∷ [])
map_last f [] d = refl
map_last f (y ∷ ds) d = ap (λ xs. f y ∷ xs) (map_last f ds d)

-- The texts that a box has released are those of marks, no two of one account and number and of different dockets.
pub record StoreHolds (number : ℕ) (s : StoreState) (texts : List (List ℕ)) : Type 0 where
  pub own : OwnAndRead s
  pub dockets : List Docket
  pub texts_are : texts ≡ map (λ d. countersign_text number (encoded d)) dockets
  pub again : (d : Docket) → In d dockets → read_docket (encoded d) ≡ Ok d
  pub behind : (d : Docket) → In d dockets → Behind s d
  pub unique : Unique dockets

-- the box is a started one that has taken these dockets
pub record BoxHolds {State : Type 0} (valid : State → ℕ → List ℕ → Bool) (next : State → ℕ → List ℕ → State) (start b : BoxState State) (ds : List Docket) : Type 0 where
  pub level : Level start b
  pub run : Run (took valid next) (ledger_of start) ds (ledger_of b)

-- one more text, of a mark
module _ (number : ℕ) (s : StoreState) (texts : List (List ℕ)) (h : StoreHolds number s texts) (a : ℕ) (m : Docket) (is : s.mark a ≡ Some m) where
  own_mark : (read_docket (encoded m) ≡ Ok m) × (m.account ≡ a)
  own_mark = h.own a m is

  same_mark : (d : Docket) → In d h.dockets → d.account ≡ m.account → d.number ≡ m.number → d ≡ m
  same_mark d i ea en =
      let b = h.behind d i in
      let same = same_Some b.mark m (sym b.is ∙ (ap s.mark (ea ∙ own_mark.1) ∙ is)) in
      ⊎_elim (λ e. e ∙ same) (λ less. absurd (let n = ap (λ (x : Docket). x.number) same in omega arith)) b.passed

  unique_with : Unique (h.dockets ++ m ∷ [])
  unique_with d e i j ea en =
      ⊎_elim
      (λ di. ⊎_elim (λ ej. h.unique d e di ej ea en) (λ em. same_mark d di (ea ∙ ap (λ (x : Docket). x.account) em) (en ∙ ap (λ (x : Docket). x.number) em) ∙ sym em) (in_last e m h.dockets j))
      (λ dm. ⊎_elim (λ ej. dm ∙ sym (same_mark e ej (sym ea ∙ ap (λ (x : Docket). x.account) dm) (sym en ∙ ap (λ (x : Docket). x.number) dm))) (λ em. dm ∙ sym em) (in_last e m h.dockets j))
      (in_last d m h.dockets i)

  pub text_added : StoreHolds number s (texts ++ countersign_text number (encoded m) ∷ [])
  text_added = record {
    own = h.own;
    dockets = h.dockets ++ m ∷ [];
    texts_are = ap (λ ts. ts ++ countersign_text number (encoded m) ∷ []) h.texts_are ∙ map_last (λ d. countersign_text number (encoded d)) h.dockets m;
    again = λ d i. ⊎_elim (h.again d) (λ e. subst (λ x. read_docket (encoded x) ≡ Ok x) (sym e) own_mark.0) (in_last d m h.dockets i);
    behind = λ d i. ⊎_elim (h.behind d) (λ e. record { mark = m; is = ap (λ (x : Docket). s.mark x.account) e ∙ (ap s.mark own_mark.1 ∙ is); passed = inl e }) (in_last d m h.dockets i);
    unique = unique_with;
  }

release_adds : {State : Type 0} (b : BoxState State) (s : StoreState) (slip : SlipState) (texts : List (List ℕ)) → StoreHolds b.number s texts → StoreHolds b.number s (adding texts (released_text b s slip))
unfolding released_text
release_adds b s slip texts h = unless cause.OtherOwner (not (eqb s.owner b.number)) _ (unless cause.NotMarked (not (eqb slip.maker b.number)) _ (by_text (s.mark slip.account) refl)) where
  by_number : (m : Docket) (t : Bool) → s.mark slip.account ≡ Some m → StoreHolds b.number s (adding texts (cond t (Ok (countersign_text b.number (encoded m))) (Err (found layer.Box cause.NotMarked 0))))
  by_number m true e = text_added b.number s texts h slip.account m e
  by_number m false e = h

  by_text : (mark : Option Docket) → s.mark slip.account ≡ mark → StoreHolds b.number s (adding texts (text_of b slip.number mark))
  by_text None e = h
  by_text (Some m) e = by_number m (eqb m.number slip.number) e

  unless : (why : Cause) (t : Bool) (r : Result (List ℕ) Reading) → StoreHolds b.number s (adding texts r) → StoreHolds b.number s (adding texts (cond t (Err (found layer.Box why 0)) r))
  unless why true r k = h
  unless why false r k = k

module _ {State : Type 0} (valid : State → ℕ → List ℕ → Bool) (next : State → ℕ → List ℕ → State) (good : ℕ → List ℕ → List ℕ → Bool) where
  countersign_keeps :
      (number : ℕ) (b : BoxState State) (s : StoreState) (texts : List (List ℕ)) (bs seal : List ℕ) → b.pool < 4294967296 → StoreHolds number s texts
      → StoreHolds number (store_after s (finding valid next good b s bs seal)) texts
  countersign_keeps number b s texts bs seal small h =
      let left = countersign_leaves valid next good b s small (λ t. OwnAndRead t × ((d : Docket) → In d h.dockets → Behind t d)) (h.own, h.behind) (λ d f. (own_written s d h.own f, λ x i. behind_written s d x f (h.behind x i))) bs seal in
      record {
        own = left.0;
        dockets = h.dockets;
        texts_are = h.texts_are;
        again = h.again;
        behind = left.1;
        unique = h.unique;
      }

  -- lines that were tried leave a level box as it was
  box_stays : (start b : BoxState State) (f : Finding) → Level start b → box_after b f ≡ b
  box_stays start b (refuses r) h = refl
  box_stays start b (marked d) h = refl
  box_stays start b (not_covered place) h = ap (λ x. box_after x (not_covered place)) h ∙ sym h
  box_stays start b (to_write d) h = ap (λ x. box_after x (to_write d)) h ∙ sym h

  took_more : (start b : BoxState State) (ds : List Docket) (bs : List ℕ) (r : Result Docket Reading) → taken_docket good b bs ≡ r → BoxHolds valid next start b ds → BoxHolds valid next start (take_box valid next good b bs) (adding ds r)
  took_more start b ds bs (Ok d) e h = record {
    level = level_one valid next good start b bs (Ok d) e h.level;
    run = run_push (took valid next) (ledger_of start) (ledger_of b) _ ds d h.run (took_one valid next good b bs d e);
  }
  took_more start b ds bs (Err r) e h = subst (λ x. BoxHolds valid next start x ds) (sym (box_same valid next good b bs r e)) h

  started_again : (n number f : ℕ) (opening : State) (b : BoxState State) → Level (started_box n number f opening) b → restart_box b ≡ started_box n number f opening
  started_again n number f opening b h = ap restart_box h

  module _ (n number f : ℕ) (opening : State) (small : n < 4294967296) where
    pub record Holds (m : Moment State) : Type 0 where
      pub box : BoxHolds valid next (started_box n number f opening) m.box m.taken
      pub store : StoreHolds number m.store m.released

    number_is : (b : BoxState State) → Level (started_box n number f opening) b → b.number ≡ number
    number_is b h = ap (λ (x : BoxState State). x.number) h

    pool_small : (b : BoxState State) → Level (started_box n number f opening) b → b.pool < 4294967296
    pool_small b h = subst (λ x. x < 4294967296) (sym (ap (λ (x : BoxState State). x.pool) h)) small

    holds_countersign : (m : Moment State) (bs seal : List ℕ) (t : Bool) → m.ready ≡ t → Holds m → Holds (cond t (record { box = box_after m.box (finding valid next good m.box m.store bs seal); ready = m.ready; store = store_after m.store (finding valid next good m.box m.store bs seal); released = m.released; taken = m.taken }) m)
    holds_countersign m bs seal true e h = record {
      box = subst (λ x. BoxHolds valid next (started_box n number f opening) x m.taken) (sym (box_stays (started_box n number f opening) m.box _ h.box.level)) h.box;
      store = countersign_keeps number m.box m.store m.released bs seal (pool_small m.box h.box.level) h.store;
    }
    holds_countersign m bs seal false e h = h

    holds_release : (m : Moment State) (slip : SlipState) (t : Bool) → Holds m → Holds (cond t (record { box = m.box; ready = m.ready; store = m.store; released = adding m.released (released_text m.box m.store slip); taken = m.taken }) m)
    holds_release m slip true h =
        let same = number_is m.box h.box.level in
        record {
          box = h.box;
          store = subst (λ x. StoreHolds x m.store (adding m.released (released_text m.box m.store slip))) same (release_adds m.box m.store slip m.released (subst (λ x. StoreHolds x m.store m.released) (sym same) h.store));
        }
    holds_release m slip false h = h

    holds_call : (m : Moment State) (call : Call) → Holds m → Holds (after_call valid next good m call)
    holds_call m (countersign bs seal) h = holds_countersign m bs seal m.ready refl h
    holds_call m (release slip) h = holds_release m slip m.ready h
    holds_call m (withhold slip) h = h
    holds_call m join h = record { box = h.box; store = h.store }
    holds_call m (take bs) h = record { box = took_more (started_box n number f opening) m.box m.taken bs (taken_docket good m.box bs) refl h.box; store = h.store }
    holds_call m restart h = record {
      box = subst (λ x. BoxHolds valid next (started_box n number f opening) x []) (sym (started_again n number f opening m.box h.box.level)) (record { level = refl; run = refl });
      store = h.store;
    }

    pub holds_calls : (m : Moment State) (calls : List Call) → Holds m → Holds (after_calls valid next good m calls)
    holds_calls m [] h = h
    holds_calls m (call ∷ calls) h = holds_calls (after_call valid next good m call) calls (holds_call m call h)
