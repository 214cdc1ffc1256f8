-- One settling: which docket it is, that one fewer waits then, and that settling all leaves none ready. Assumes nothing.
use Rattle.std.proofs.Common.{◌≡◌, ℕ, zero, suc, ◌+◌, ◌%◌, ◌<◌, ◌≤◌, Bool, eqb, ◌⊎◌, List, [], ◌∷◌, length, get_or, set, Some, None, Option, sym, refl, ap, ◌∙◌, inl, inr, ⊎_elim, arith}
use Rattle.std.proofs.lemmas.Option.{none-some, same_Some}
use Rattle.std.proofs.lemmas.Bool.{eqb-true}
use Rattle.docket.specs.declared.Docket.{Docket}
use Rattle.settling.specs.declared.account.Account.{Account}
use Rattle.settling.specs.Window.{cell, of_number, waiting, advanced, account_of, advanced_in}
use Rattle.settling.specs.Settle.{Ledger, waiting_in, waiting_count, covered, covered_of, ready, or_else, with_index, lowest_ready, advanced_at, settle_one, then_settle, settle_up_to, settle_all}
use Rattle.settling.proofs.OrderLines.{cond_some}

pub fewer_in : (cs : List (Option Docket)) (i : ℕ) (d : Docket) → get_or cs i None ≡ Some d → waiting_in cs ≡ suc (waiting_in (set cs i None))
fewer_in [] i d e = absurd (none-some d e)
fewer_in (None ∷ cs) zero d e = absurd (none-some d e)
fewer_in (Some c ∷ cs) zero d e = refl
fewer_in (None ∷ cs) (suc i) d e = fewer_in cs i d e
fewer_in (Some c ∷ cs) (suc i) d e = ap suc (fewer_in cs i d e)

pub fewer : (rows : List Account) (j : ℕ) (x : Account) → j < length rows → waiting_in (account_of rows j).cells ≡ suc (waiting_in x.cells) → waiting_count rows ≡ suc (waiting_count (set rows j x))
fewer [] j x h e = absurd (omega arith)
fewer (r ∷ rows) zero x h e = omega arith
fewer (r ∷ rows) (suc j) x h e = let f = fewer rows j x (omega arith) e in omega arith

-- the docket that waits under a number
pub waits_from : (a : Account) (n : ℕ) (d : Docket) → waiting a n ≡ Some d → (cell a n ≡ Some d) × (d.number ≡ n)
waits_from a n d e = from (cell a n) e
  where
    from : (o : Option Docket) → of_number n o ≡ Some d → (o ≡ Some d) × (d.number ≡ n)
    from None h = absurd (none-some d h)
    from (Some c) h =
        let p = cond_some (eqb c.number n) (Some c) d h in
        (p.1, ap (λ (x : Docket). x.number) (sym (same_Some c d p.1)) ∙ eqb-true c.number n p.0)

module _ {State : Type 0} (valid : State → ℕ → List ℕ → Bool) (next : State → ℕ → List ℕ → State) where
  pub ready_from : (s t : State) (a : Account) → ready valid next s a ≡ Some t → (d : Docket) × (waiting a a.next ≡ Some d) × (covered valid next s d ≡ Some t)
  ready_from s t a e = from (waiting a a.next) e
    where
      from : (o : Option Docket) → covered_of valid next s o ≡ Some t → (d : Docket) × (o ≡ Some d) × (covered valid next s d ≡ Some t)
      from None h = absurd (none-some t h)
      from (Some d) h = (d, refl, h)

  either : (i : ℕ) (o : Option State) (rest : Option (ℕ × State)) (x : ℕ × State) → or_else (with_index i o) rest ≡ Some x → ((o ≡ Some x.1) × (x.0 ≡ i)) ⊎ (rest ≡ Some x)
  either i None rest x e = inr e
  either i (Some u) rest x e = let s = same_Some (i, u) x e in inl (ap (λ z. Some z.1) s, sym (ap (λ z. z.0) s))

  neither : (i : ℕ) (o : Option State) (rest : Option (ℕ × State)) → or_else (with_index i o) rest ≡ None → (o ≡ None) × (rest ≡ None)
  neither i None rest e = (refl, e)
  neither i (Some u) rest e = absurd (none-some (i, u) (sym e))

  -- where the lowest ready account is
  pub found : (i : ℕ) (s : State) (rows : List Account) (x : ℕ × State) → lowest_ready valid next i s rows ≡ Some x → (j : ℕ) × (x.0 ≡ i + j) × (j < length rows) × (ready valid next s (account_of rows j) ≡ Some x.1)
  found i s [] x e = absurd (none-some x e)
  found i s (r ∷ rows) x e =
      ⊎_elim (λ h. (0, omega arith, omega arith, h.0))
      (λ h. let l = found (i + 1) s rows x h in (suc l.0, omega arith, omega arith, l.3))
      (either i (ready valid next s r) (lowest_ready valid next (i + 1) s rows) x e)

  lowest_none : (i : ℕ) (s : State) (rows : List Account) (j : ℕ) → lowest_ready valid next i s rows ≡ None → ready valid next s (account_of rows j) ≡ None
  lowest_none i s [] j e = refl
  lowest_none i s (r ∷ rows) zero e = (neither i (ready valid next s r) (lowest_ready valid next (i + 1) s rows) e).0
  lowest_none i s (r ∷ rows) (suc j) e = lowest_none (i + 1) s rows j (neither i (ready valid next s r) (lowest_ready valid next (i + 1) s rows) e).1

  -- the docket that settles
  pub record One (l m : Ledger State) : Type 0 where
    pub at : ℕ
    pub docket : Docket
    pub within : at < length l.accounts
    pub waits : waiting (account_of l.accounts at) (account_of l.accounts at).next ≡ Some docket
    pub state : covered valid next l.state docket ≡ Some m.state
    pub accounts : m.accounts ≡ advanced_in l.accounts at

  pub one_settles : (l m : Ledger State) → settle_one valid next l ≡ Some m → One l m
  unfolding settle_one
  one_settles l m e = from (lowest_ready valid next 0 l.state l.accounts) refl e
    where
      from : (o : Option (ℕ × State)) → lowest_ready valid next 0 l.state l.accounts ≡ o → advanced_at l.accounts o ≡ Some m → One l m
      from None low h = absurd (none-some m h)
      from (Some x) low h =
          let f = found 0 l.state l.accounts x low in
          let r = ready_from l.state x.1 (account_of l.accounts f.0) f.3 in
          let i : x.0 ≡ f.0 = omega arith in
          let same = same_Some _ m h in
          record {
            at = f.0;
            docket = r.0;
            within = f.2;
            waits = r.1;
            state = r.2 ∙ ap (λ (y : Ledger State). Some y.state) same;
            accounts = sym (ap (λ (y : Ledger State). y.accounts) same) ∙ ap (advanced_in l.accounts) i;
          }

  pub none_ready : (l : Ledger State) (a : ℕ) → settle_one valid next l ≡ None → ready valid next l.state (account_of l.accounts a) ≡ None
  unfolding settle_one
  none_ready l a e = from (lowest_ready valid next 0 l.state l.accounts) refl e
    where
      from : (o : Option (ℕ × State)) → lowest_ready valid next 0 l.state l.accounts ≡ o → advanced_at l.accounts o ≡ None → ready valid next l.state (account_of l.accounts a) ≡ None
      from None low h = lowest_none 0 l.state l.accounts a low
      from (Some x) low h = absurd (none-some _ (sym h))

  one_fewer : (l m : Ledger State) → settle_one valid next l ≡ Some m → waiting_count l.accounts ≡ suc (waiting_count m.accounts)
  one_fewer l m e =
      let o = one_settles l m e in
      let a = account_of l.accounts o.at in
      let c = fewer_in a.cells (a.next % 4) o.docket (waits_from a a.next o.docket o.waits).0 in
      fewer l.accounts o.at (advanced a) o.within c ∙ ap (λ x. suc (waiting_count x)) (sym o.accounts)

  -- what each settling keeps, settling all keeps; and then none is ready
  settled_up_to :
      (Keep : Ledger State → Type 0) (step : (l m : Ledger State) → Keep l → settle_one valid next l ≡ Some m → Keep m) (n : ℕ) (l : Ledger State) → Keep l → waiting_count l.accounts ≤ n
      → Keep (settle_up_to valid next n l).1 × (settle_one valid next (settle_up_to valid next n l).1 ≡ None)
  settled_up_to Keep step zero l k h = (k, from (settle_one valid next l) refl)
    where
      from : (o : Option (Ledger State)) → settle_one valid next l ≡ o → o ≡ None
      from None e = refl
      from (Some m) e = let f = one_fewer l m e in absurd (omega arith)
  settled_up_to Keep step (suc n) l k h = from (settle_one valid next l) refl (λ m k' h'. settled_up_to Keep step n m k' h')
    where
      from :
          (o : Option (Ledger State)) → settle_one valid next l ≡ o
          → ((m : Ledger State) → Keep m → waiting_count m.accounts ≤ n → Keep (settle_up_to valid next n m).1 × (settle_one valid next (settle_up_to valid next n m).1 ≡ None))
          → Keep (then_settle (settle_up_to valid next n) l o).1 × (settle_one valid next (then_settle (settle_up_to valid next n) l o).1 ≡ None)
      from None e later = (k, e)
      from (Some m) e later = let f = one_fewer l m e in later m (step l m k e) (omega arith)

  pub all_settled :
      (Keep : Ledger State → Type 0) (step : (l m : Ledger State) → Keep l → settle_one valid next l ≡ Some m → Keep m) (l : Ledger State) → Keep l
      → Keep (settle_all valid next l).1 × (settle_one valid next (settle_all valid next l).1 ≡ None)
  unfolding settle_all
  all_settled Keep step l k = settled_up_to Keep step (waiting_count l.accounts) l k (omega arith)
