-- Taking certificates depends only on which dockets a box took. Assumes nothing but the law of its book.
use Rattle.std.proofs.Common.{◌≡◌, ℕ, Bool, List, [], ◌∷◌, replicate, Some, Ok, Err, Result, sym, refl, ap, ◌∙◌, subst}
use Rattle.std.specs.Bool.{then_some}
use Rattle.refusals.specs.Reading.{Reading}
use Rattle.docket.specs.declared.Docket.{Docket}
use Rattle.book.specs.Law.{WeaklyIndependent}
use Rattle.settling.specs.Window.{fresh}
use Rattle.settling.specs.Settle.{Ledger}
use Rattle.settling.specs.Order.{In, Progress, begun, settled, Settles, took, took_all, progress_of, SettlingIsOrderFree}
use Rattle.settling.proofs.OrderRuns.{Run, run_from, in_turn_lem}
use Rattle.settling.proofs.OrderNumbers.{number_passed}
use Rattle.settling.proofs.OrderFree.{order_free}
use Rattle.settlement.specs.Box.{BoxState, taken_docket, settled_with, with_ledger, take_box}
use Rattle.settlement.specs.Order.{taken_all, with_taken, taken_by, settled_in, TakingIsOrderFree}
use Rattle.settlement.proofs.Fitting.{taken_fits}

abbrev pub ledger_of : {State : Type 0} → BoxState State → Ledger State
ledger_of b = record { state = b.current; accounts = b.accounts }

-- c differs from b in its ledger alone, and its book keeps where it is
abbrev pub Level : {State : Type 0} → BoxState State → BoxState State → Type 0
Level b c = c ≡ with_ledger b (ledger_of c)

-- a box at its start
pub record AtStart {State : Type 0} (b : BoxState State) : Type 0 where
  pub kept : b.kept ≡ b.opening
  pub current : b.current ≡ b.opening
  pub accounts : b.accounts ≡ replicate 64 fresh

module _ {State : Type 0} (valid : State → ℕ → List ℕ → Bool) (next : State → ℕ → List ℕ → State) (good : ℕ → List ℕ → List ℕ → Bool) where
  -- one certificate
  box_taken : (b : BoxState State) (bs : List ℕ) (d : Docket) → taken_docket good b bs ≡ Ok d → take_box valid next good b bs ≡ with_ledger b (settled_with valid next b d).1
  unfolding take_box
  box_taken b bs d e = rw e

  pub box_same : (b : BoxState State) (bs : List ℕ) (r : Reading) → taken_docket good b bs ≡ Err r → take_box valid next good b bs ≡ b
  unfolding take_box
  box_same b bs r e = rw e

  pub took_one : (b : BoxState State) (bs : List ℕ) (d : Docket) → taken_docket good b bs ≡ Ok d → took valid next (ledger_of b) d ≡ Some (ledger_of (take_box valid next good b bs))
  took_one b bs d e = ap (λ t. then_some t (settled_with valid next b d).1) (taken_fits good b bs d e) ∙ ap (λ x. Some (ledger_of x)) (sym (box_taken b bs d e))

  run_one :
      (b : BoxState State) (bs : List ℕ) (ds : List Docket) (l : Ledger State) (r : Result Docket Reading) → taken_docket good b bs ≡ r
      → Run (took valid next) (ledger_of (take_box valid next good b bs)) ds l → Run (took valid next) (ledger_of b) (with_taken r ds) l
  run_one b bs ds l (Ok d) e run = (ledger_of (take_box valid next good b bs), took_one b bs d e, run)
  run_one b bs ds l (Err r) e run = subst (λ x. Run (took valid next) (ledger_of x) ds l) (box_same b bs r e) run

  pub level_one : (b c : BoxState State) (bs : List ℕ) (r : Result Docket Reading) → taken_docket good c bs ≡ r → Level b c → Level b (take_box valid next good c bs)
  level_one b c bs (Ok d) e h =
      let l = (settled_with valid next c d).1 in
      subst (Level b) (sym (box_taken c bs d e)) (ap (λ x. with_ledger x l) h)
  level_one b c bs (Err r) e h = subst (Level b) (sym (box_same c bs r e)) h

  -- certificates one after another
  runs : (b : BoxState State) (xs : List (List ℕ)) → Run (took valid next) (ledger_of b) (taken_by valid next good b xs) (ledger_of (taken_all valid next good b xs))
  runs b [] = refl
  runs b (bs ∷ xs) = run_one b bs _ _ (taken_docket good b bs) refl (runs (take_box valid next good b bs) xs)

  levels : (b c : BoxState State) (xs : List (List ℕ)) → Level b c → Level b (taken_all valid next good c xs)
  levels b c [] h = h
  levels b c (bs ∷ xs) h = levels b (take_box valid next good c bs) xs (level_one b c bs (taken_docket good c bs) refl h)

  module _ (b : BoxState State) (start : AtStart b) (law : WeaklyIndependent valid next b.opening) where
    free : SettlingIsOrderFree valid next b.opening
    free = order_free valid next b.opening law

    level : (xs : List (List ℕ)) → Level b (taken_all valid next good b xs)
    level xs = levels b b xs (λ i. record {
      pool = b.pool;
      number = b.number;
      boxes = b.boxes;
      needed = b.needed;
      opening = b.opening;
      kept = (start.kept ∙ sym start.current) i;
      current = b.current;
      accounts = b.accounts;
    })

    first : ledger_of b ≡ record { state = b.opening; accounts = replicate 64 fresh }
    first = λ i. record { state = start.current i; accounts = start.accounts i }

    took_all_lem : (xs : List (List ℕ)) → took_all valid next b.opening (taken_by valid next good b xs) ≡ Some (ledger_of (taken_all valid next good b xs))
    took_all_lem xs = in_turn_lem (took valid next) _ (ledger_of (taken_all valid next good b xs)) (taken_by valid next good b xs) (subst (λ l. Run (took valid next) l (taken_by valid next good b xs) (ledger_of (taken_all valid next good b xs))) first (runs b xs))

    settled_best :
        (xs : List (List ℕ)) (order : List Docket) (end : Progress State) → Settles valid next b.opening (taken_by valid next good b xs) order end
        → (d : Docket) → In d order → settled_in (taken_all valid next good b xs) d
    settled_best xs order end s d i =
        let ds = taken_by valid next good b xs in
        let l = ledger_of (taken_all valid next good b xs) in
        let o = free.outcomes ds l (took_all_lem xs) in
        let inside = free.maximal ds o.order order (progress_of l) end o.unique o.settles s o.exhausted d i in
        number_passed valid next (begun b.opening) (progress_of l) o.order d (run_from (settled valid next) (begun b.opening) (progress_of l) o.order o.settles.legal) inside

    pub taking_order_free : TakingIsOrderFree valid next good b
    taking_order_free = record {
      same_box = λ xs ys more less.
          level xs ∙ (ap (with_ledger b) (free.same_outcome _ _ _ _ (took_all_lem xs) (took_all_lem ys) more less) ∙ sym (level ys));
      more_settles = λ xs ys more. free.more_settle _ _ _ _ (took_all_lem xs) (took_all_lem ys) more;
      best = settled_best;
    }
