-- What holds of a ledger that has taken dockets, and that taking and settling keep it. Assumes nothing.
use Rattle.std.proofs.Common.{◌≡◌, ℕ, zero, suc, ◌+◌, ◌<◌, ◌≤◌, Bool, true, false, not, eqb, leb, ◌⊎◌, List, [], ◌∷◌, ◌++◌, length, get_or, set, replicate, is_some, Some, None, Option, sym, refl, ap, ◌∙◌, subst, inl, inr, ⊎_elim, arith}
use Rattle.std.proofs.lemmas.Option.{none-some, same_Some}
use mathlib.Core.Path.{fun_ext}
use Rattle.std.specs.Bool.{then_some}
use Rattle.std.proofs.lemmas.Bool.{cases_eq, and_parts, leb-true, eq-eqb, cond-true, true≢false}
use Rattle.std.proofs.lemmas.List.{length-set, get_or-set_same, get_or-set_other}
use Rattle.docket.specs.declared.Docket.{Docket}
use Rattle.settling.specs.declared.account.Account.{Account}
use Rattle.settling.specs.Window.{fresh, cell, of_number, waiting, placed, advanced, account_of, stored, advanced_in}
use Rattle.settling.specs.Settle.{Ledger, covered_of, settle_one, settle_all}
use Rattle.settling.specs.Order.{In, Progress, begun, raised, settled, fits, took, took_all, progress_of}
use Rattle.settling.proofs.OrderRuns.{Run, run_from, run_push}
use Rattle.settling.proofs.OrderDockets.{raised_own, raised_other, settling_from, settled_from}
use Rattle.settling.proofs.OrderCounts.{waits_from, one_settles, none_ready, all_settled}
use Rattle.settling.proofs.OrderWindow.{And, Window, fresh_window, window_advanced, window_placed, window_other}

in_push : (xs : List Docket) (d e : Docket) → In e (xs ++ d ∷ []) → In e xs ⊎ (e ≡ d)
in_push [] d e (inl s) = inr s
in_push [] d e (inr i) = absurd i
in_push (x ∷ xs) d e (inl s) = inl (inl s)
in_push (x ∷ xs) d e (inr i) = ⊎_elim (λ j. inl (inr j)) (λ s. inr s) (in_push xs d e i)

-- one account replaced: the property of it, and of every other
each_set : (Has : ℕ → Account → Type 0) (rows : List Account) (a : ℕ) (x : Account) → a < length rows → Has a x → ((b : ℕ) → (a ≡ b → ⊥) → Has b (account_of rows b)) → (b : ℕ) → Has b (account_of (set rows a x) b)
each_set Has rows a x h own others b =
    ⊎_elim (λ e. subst (λ c. Has c (account_of (set rows a x) c)) e (subst (Has a) (sym (get_or-set_same rows a x fresh h)) own))
    (λ n. subst (Has b) (sym (get_or-set_other rows a b x fresh (λ z. n (sym z)))) (others b n)) (cases_eq a b)

pub waits_at : (r : Account) (n : ℕ) (d : Docket) → cell r n ≡ Some d → d.number ≡ n → waiting r n ≡ Some d
waits_at r n d c e = ap (of_number n) c ∙ cond-true (eqb d.number n) (Some d) None (eq-eqb d.number n e)

-- what a docket that fits is
record Fits (rows : List Account) (d : Docket) : Type 0 where
  known : d.account < 64
  numbered : leb d.number 1099511627776 ≡ true
  low : (account_of rows d.account).next ≤ d.number
  free : cell (account_of rows d.account) d.number ≡ None

none_from : {T : Type 0} (o : Option T) → not (is_some o) ≡ true → o ≡ None
none_from None e = refl
none_from (Some x) e = absurd (true≢false (sym e))

fits_from : (rows : List Account) (d : Docket) → fits rows d ≡ true → Fits rows d
fits_from rows d h =
    let a = account_of rows d.account in
    let p = and_parts (leb d.account 63) _ h in
    let q = and_parts (leb 1 d.number) _ p.1 in
    let r = and_parts (leb d.number 1099511627776) _ q.1 in
    let s = and_parts (leb a.next d.number) _ r.1 in
    let t = and_parts (leb d.number (a.next + 3)) _ s.1 in
    let k = leb-true d.account 63 p.0 in
    record { known = omega arith; numbered = r.0; low = leb-true _ _ s.0; free = none_from (cell a d.number) t.1 }

module _ {State : Type 0} (valid : State → ℕ → List ℕ → Bool) (next : State → ℕ → List ℕ → State) (opening : State) where
  pub record Kept (Taken : Docket → Type 0) (l : Ledger State) : Type 0 where
    pub rows : length l.accounts ≡ 64
    pub unique : (d e : Docket) → Taken d → Taken e → d.account ≡ e.account → d.number ≡ e.number → d ≡ e
    pub order : List Docket
    pub members : (d : Docket) → In d order → Taken d
    pub run : Run (settled valid next) (begun opening) order (progress_of l)
    pub windows : (a : ℕ) → Window Taken a (account_of l.accounts a)

  -- one docket settles
  dues_after : (rows : List Account) (a : ℕ) → a < length rows → (b : ℕ) → (account_of (advanced_in rows a) b).next ≡ raised (λ c. (account_of rows c).next) a b
  dues_after rows a h =
      each_set (λ b r. r.next ≡ raised (λ c. (account_of rows c).next) a b) rows a (advanced (account_of rows a)) h
      (sym (raised_own (λ c. (account_of rows c).next) a)) (λ b n. sym (raised_other (λ c. (account_of rows c).next) a b n))

  kept_one : (Taken : Docket → Type 0) (l m : Ledger State) → Kept Taken l → settle_one valid next l ≡ Some m → Kept Taken m
  kept_one Taken l m k e =
      let o = one_settles valid next l m e in
      let r = account_of l.accounts o.at in
      let first = waits_from r r.next o.docket o.waits in
      let from = (k.windows o.at).held r.next o.docket first.0 in
      let n : Ledger State = record { state = m.state; accounts = advanced_in l.accounts o.at } in
      let same : n ≡ m = λ i. record { state = m.state; accounts = sym o.accounts i } in
      let dues : (progress_of n).due ≡ raised (progress_of l).due o.docket.account = fun_ext (dues_after l.accounts o.at o.within) ∙ ap (raised (progress_of l).due) (sym from.1) in
      let step = settled_from valid next (progress_of l) (progress_of n) o.docket (first.1 ∙ ap (progress_of l).due (sym from.1), o.state, dues) in
      let kept : Kept Taken n = record {
        rows = length-set l.accounts o.at (advanced r) ∙ k.rows;
        unique = k.unique;
        order = k.order ++ o.docket ∷ [];
        members = λ d i. ⊎_elim (k.members d) (λ s. subst Taken (sym s) from.0) (in_push k.order o.docket d i);
        run = run_push (settled valid next) (begun opening) (progress_of l) (progress_of n) k.order o.docket k.run step;
        windows = each_set (Window Taken) l.accounts o.at (advanced r) o.within (window_advanced Taken o.at r o.docket (k.windows o.at) o.waits) (λ b _. k.windows b);
      } in
      subst (Kept Taken) same kept

  -- one docket is stored
  dues_stored : (rows : List Account) (d : Docket) → d.account < length rows → (b : ℕ) → (account_of (set rows d.account (placed (account_of rows d.account) d)) b).next ≡ (account_of rows b).next
  dues_stored rows d h = each_set (λ b r. r.next ≡ (account_of rows b).next) rows d.account (placed (account_of rows d.account) d) h refl (λ b n. refl)

  kept_stored : (Taken : Docket → Type 0) (l : Ledger State) (d : Docket) → Kept Taken l → fits l.accounts d ≡ true → Kept (And Taken d) (record { state = l.state; accounts = stored l.accounts d })
  kept_stored Taken l d k h =
      let f = fits_from l.accounts d h in
      let r = account_of l.accounts d.account in
      let w = k.windows d.account in
      let count = k.rows in
      let known = f.known in
      let inside : d.account < length l.accounts = omega arith in
      let now = set l.accounts d.account (placed r d) in
      let m : Ledger State = record { state = l.state; accounts = now } in
      let new : stored l.accounts d ≡ now = cond-true (leb d.number 1099511627776) now l.accounts f.numbered in
      let same : m ≡ record { state = l.state; accounts = stored l.accounts d } = λ i. record { state = l.state; accounts = sym new i } in
      let still : progress_of l ≡ progress_of m = λ i. record { state = l.state; due = sym (fun_ext (dues_stored l.accounts d inside)) i } in
      let clash : (e : Docket) → Taken e → e.account ≡ d.account → e.number ≡ d.number → ⊥ = λ e t a n.
      let at = ap (λ x. (account_of l.accounts x).next) a in
      let low = f.low in
      let there = w.waits e t a (omega arith) in
      none-some e (sym f.free ∙ (ap (cell r) (sym n) ∙ there)) in
      let kept : Kept (And Taken d) m = record {
        rows = length-set l.accounts d.account (placed r d) ∙ k.rows;
        unique = λ x y. ⊎_elim
            (λ s. ⊎_elim (λ t a n. k.unique x y s t a n) (λ t a n. absurd (clash x s (a ∙ ap (λ (z : Docket). z.account) t) (n ∙ ap (λ (z : Docket). z.number) t))))
            (λ s. ⊎_elim (λ t a n. absurd (clash y t (sym a ∙ ap (λ (z : Docket). z.account) s) (sym n ∙ ap (λ (z : Docket). z.number) s))) (λ t a n. s ∙ sym t));
        order = k.order;
        members = λ e i. inl (k.members e i);
        run = subst (Run (settled valid next) (begun opening) k.order) still k.run;
        windows = each_set (Window (And Taken d)) l.accounts d.account (placed r d) inside (window_placed Taken d.account r d w refl f.low f.free) (λ b n. window_other Taken b (account_of l.accounts b) d (k.windows b) n);
      } in
      subst (Kept (And Taken d)) same kept

  when_true : {T : Type 0} (b : Bool) (x y : T) → then_some b x ≡ Some y → (b ≡ true) × (x ≡ y)
  when_true true x y e = (refl, same_Some x y e)
  when_true false x y e = absurd (none-some y e)

  -- what is left once all have settled that can
  abbrev pub Left : (Docket → Type 0) → Ledger State → Type 0
  Left Taken l = Kept Taken l × (settle_one valid next l ≡ None)

  took_leaves : (Taken : Docket → Type 0) (l m : Ledger State) (d : Docket) → Kept Taken l → took valid next l d ≡ Some m → Left (And Taken d) m
  took_leaves Taken l m d k e =
      let from : Ledger State = record { state = l.state; accounts = stored l.accounts d } in
      let t = when_true (fits l.accounts d) (settle_all valid next from).1 m e in
      subst (Left (And Taken d)) t.1 (all_settled valid next (Kept (And Taken d)) (kept_one (And Taken d)) from (kept_stored Taken l d k t.0))

  -- the same dockets, told in another way
  retold : (T U : Docket → Type 0) (l : Ledger State) → ((d : Docket) → T d → U d) → ((d : Docket) → U d → T d) → Left T l → Left U l
  retold T U l more less (k, done) = (
    record {
      rows = k.rows;
      unique = λ d e x y. k.unique d e (less d x) (less e y);
      order = k.order;
      members = λ d i. more d (k.members d i);
      run = k.run;
      windows = λ a. record {
        four = (k.windows a).four;
        waits = λ d t. (k.windows a).waits d (less d t);
        held = λ n d h. let x = (k.windows a).held n d h in (more d x.0, x.1, x.2, x.3);
      };
    },
    done,
  )

  all_leave : (Taken : Docket → Type 0) (l m : Ledger State) (ds : List Docket) → Left Taken l → Run (took valid next) l ds m → Left (λ d. Taken d ⊎ In d ds) m
  all_leave Taken l m [] k run = retold Taken (λ d. Taken d ⊎ ⊥) m (λ d t. inl t) (λ d. ⊎_elim (λ t. t) (λ i. absurd i)) (subst (Left Taken) run k)
  all_leave Taken l m (x ∷ ds) k run =
      let one = took_leaves Taken l run.0 x k.0 run.1 in
      let rest = all_leave (And Taken x) run.0 m ds one run.2 in
      retold (λ d. And Taken x d ⊎ In d ds) (λ d. Taken d ⊎ In d (x ∷ ds)) m
      (λ d. ⊎_elim (⊎_elim (λ t. inl t) (λ s. inr (inl s))) (λ i. inr (inr i)))
      (λ d. ⊎_elim (λ t. inl (inl t)) (⊎_elim (λ s. inl (inr s)) (λ i. inr i))) rest

  -- the start
  fresh_at : (n a : ℕ) → get_or (replicate n fresh) a fresh ≡ fresh
  fresh_at zero a = refl
  fresh_at (suc n) zero = refl
  fresh_at (suc n) (suc a) = fresh_at n a

  abbrev start : Ledger State
  start = record { state = opening; accounts = replicate 64 fresh }

  start_left : Left (λ d. ⊥) start
  unfolding settle_one
  start_left = (
    record {
      rows = refl;
      unique = λ d e x. absurd x;
      order = [];
      members = λ d i. i;
      run = λ i. record { state = opening; due = λ a. (sym (fresh_at 64 a) i).next };
      windows = λ a. subst (Window (λ d. ⊥) a) (sym (fresh_at 64 a)) (fresh_window (λ d. ⊥) a (λ d x. x));
    },
    refl,
  )

  pub left_from : (l : Ledger State) (ds : List Docket) → took_all valid next opening ds ≡ Some l → Left (λ d. In d ds) l
  left_from l ds e =
      let run = run_from (took valid next) start l ds e in
      retold (λ d. ⊥ ⊎ In d ds) (λ d. In d ds) l (λ d. ⊎_elim (λ x. absurd x) (λ i. i)) (λ d i. inr i) (all_leave (λ d. ⊥) start l ds start_left run)

  -- none of those taken can settle
  pub none_can : (Taken : Docket → Type 0) (l : Ledger State) (d : Docket) → Left Taken l → Taken d → settled valid next (progress_of l) d ≡ None
  none_can Taken l d (k, done) t = from (settled valid next (progress_of l) d) refl
    where
      from : (o : Option (Progress State)) → settled valid next (progress_of l) d ≡ o → o ≡ None
      from None e = refl
      from (Some q) e =
          let s = settling_from valid next (progress_of l) q d e in
          let r = account_of l.accounts d.account in
          let n = s.0 in
          let w : waiting r r.next ≡ Some d = subst (λ x. waiting r x ≡ Some d) n (waits_at r d.number d ((k.windows d.account).waits d t refl (omega arith)) refl) in
          let no_more = none_ready valid next l d.account done in
          absurd (none-some q.state (sym no_more ∙ (ap (covered_of valid next l.state) w ∙ s.1)))
