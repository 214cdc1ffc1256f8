-- Dockets that can settle: any two can, in either order; so all orders that leave none come to the same. Assumes nothing but the law.
use Rattle.std.proofs.Common.{◌≡◌, ℕ, ◌+◌, Bool, true, false, cond, eqb, ◌⊎◌, List, Some, None, Option, sym, refl, ap, ◌∙◌, inl, inr, ⊎_elim}
use Rattle.std.proofs.lemmas.Option.{none-some, same_Some}
use mathlib.Core.Path.{fun_ext}
use Rattle.std.specs.Option.{option_map}
use Rattle.std.proofs.lemmas.Bool.{eqb-true, eq-eqb, ne_eqb, cases_eq, cond-true, cond-false}
use Rattle.docket.specs.declared.Docket.{Docket}
use Rattle.docket.specs.Layout.{used_lines}
use Rattle.book.specs.Law.{WeaklyIndependent}
use Rattle.settling.specs.Settle.{covered}
use Rattle.settling.specs.Order.{In, Within, Unique, Progress, begun, raised, settled, Settles, Exhausted, Maximal, OneEnd}
use Rattle.settling.proofs.OrderRuns.{run_from, confluent}
use Rattle.settling.proofs.OrderLines.{cond_some, Reached, reached_opening, reached_after, either_order}

pub raised_own : (due : ℕ → ℕ) (a : ℕ) → raised due a a ≡ due a + 1
raised_own due a = cond-true (eqb a a) (due a + 1) (due a) (eq-eqb a a refl)

pub raised_other : (due : ℕ → ℕ) (a b : ℕ) → (a ≡ b → ⊥) → raised due a b ≡ due b
raised_other due a b n = cond-false (eqb a b) (due b + 1) (due b) (ne_eqb a b n)

-- two accounts' numbers rise in either order
two_rise : (p q : Bool) (n : ℕ) → cond q (cond p (n + 1) n + 1) (cond p (n + 1) n) ≡ cond p (cond q (n + 1) n + 1) (cond q (n + 1) n)
two_rise true true n = refl
two_rise true false n = refl
two_rise false true n = refl
two_rise false false n = refl

mapped_some : {S T : Type 0} (f : S → T) (o : Option S) (t : T) → option_map f o ≡ Some t → (s : S) × (o ≡ Some s) × (f s ≡ t)
mapped_some f None t e = absurd (none-some t e)
mapped_some f (Some s) t e = (s, refl, same_Some (f s) t e)

module _ {State : Type 0} (valid : State → ℕ → List ℕ → Bool) (next : State → ℕ → List ℕ → State) where
  -- how a docket settles
  abbrev pub Settling : Progress State → Docket → Progress State → Type 0
  Settling p d q = (d.number ≡ p.due d.account) × (covered valid next p.state d ≡ Some q.state) × (q.due ≡ raised p.due d.account)

  pub settling_from : (p q : Progress State) (d : Docket) → settled valid next p d ≡ Some q → Settling p d q
  settling_from p q d e =
      let f : State → Progress State = λ s. record { state = s; due = raised p.due d.account } in
      let c = cond_some (eqb d.number (p.due d.account)) (option_map f (covered valid next p.state d)) q e in
      let m = mapped_some f (covered valid next p.state d) q c.1 in
      (eqb-true _ _ c.0, m.1 ∙ ap (λ (x : Progress State). Some x.state) m.2, ap (λ (x : Progress State). x.due) (sym m.2))

  pub settled_from : (p q : Progress State) (d : Docket) → Settling p d q → settled valid next p d ≡ Some q
  settled_from p q d h =
      let t = eq-eqb _ _ h.0 in
      let f : State → Progress State = λ s. record { state = s; due = raised p.due d.account } in
      let same : f q.state ≡ q = λ i. record { state = q.state; due = sym h.2 i } in
      cond-true (eqb d.number (p.due d.account)) (option_map f (covered valid next p.state d)) None t ∙ (ap (option_map f) h.1 ∙ ap Some same)

  module _ (opening : State) (law : WeaklyIndependent valid next opening) where
    keeps : (p q : Progress State) (d : Docket) → Reached valid next opening p.state → settled valid next p d ≡ Some q → Reached valid next opening q.state
    keeps p q d r e = reached_after valid next opening d.account p.state q.state (used_lines d) r (settling_from p q d e).1

    -- of two accounts, what can settle can settle after the other, with one end
    across :
        (p q r : Progress State) (d e : Docket) → Reached valid next opening p.state → (d.account ≡ e.account → ⊥) → Settling p d q → Settling p e r
        → (t : Progress State) × (settled valid next q e ≡ Some t) × (settled valid next r d ≡ Some t)
    across p q r d e g apart h k =
        let v = either_order valid next opening law d.account e.account apart p.state q.state r.state (used_lines d) (used_lines e) g h.1 k.1 in
        let t : Progress State = record { state = v.0; due = raised (raised p.due d.account) e.account } in
        let dues : raised (raised p.due d.account) e.account ≡ raised (raised p.due e.account) d.account = fun_ext (λ b. two_rise (eqb d.account b) (eqb e.account b) (p.due b)) in
        let e_due = k.0 ∙ (sym (raised_other p.due d.account e.account apart) ∙ sym (ap (λ (f : ℕ → ℕ). f e.account) h.2)) in
        let d_due = h.0 ∙ (sym (raised_other p.due e.account d.account (λ z. apart (sym z))) ∙ sym (ap (λ (f : ℕ → ℕ). f d.account) k.2)) in (
          t,
          settled_from q t e (e_due, v.1, ap (λ (f : ℕ → ℕ). raised f e.account) (sym h.2)),
          settled_from r t d (d_due, v.2, dues ∙ ap (λ (f : ℕ → ℕ). raised f d.account) (sym k.2)),
        )

    diamond :
        (ds : List Docket) → Unique ds → (p q r : Progress State) (d e : Docket) → Reached valid next opening p.state → In d ds → In e ds
        → settled valid next p d ≡ Some q → settled valid next p e ≡ Some r
        → (d ≡ e) ⊎ ((t : Progress State) × (settled valid next q e ≡ Some t) × (settled valid next r d ≡ Some t))
    diamond ds one p q r d e g i j h k =
        let sd = settling_from p q d h in
        let se = settling_from p r e k in
        ⊎_elim (λ a. inl (one d e i j a (sd.0 ∙ (ap p.due a ∙ sym se.0)))) (λ n. inr (across p q r d e g n sd se)) (cases_eq d.account e.account)

    both :
        (ds xs ys : List Docket) (p q : Progress State) → Unique ds → Settles valid next opening ds xs p → Settles valid next opening ds ys q
        → Exhausted valid next p ds → Within ys xs × (Exhausted valid next q ds → p ≡ q)
    both ds xs ys p q one hx hy stuck =
        confluent (settled valid next) (λ (x : Progress State). Reached valid next opening x.state) (λ d. In d ds) (λ x y d g i e. keeps x y d g e) (diamond ds one)
        (begun opening) p q xs ys (reached_opening valid next opening) hx.members hy.members
        (run_from (settled valid next) (begun opening) p xs hx.legal) (run_from (settled valid next) (begun opening) q ys hy.legal) stuck

    pub maximal : Maximal valid next opening
    maximal ds xs ys p q one hx hy stuck = (both ds xs ys p q one hx hy stuck).0

    pub one_end : OneEnd valid next opening
    one_end ds xs ys p q one hx hy stuck stuck' = (both ds xs ys p q one hx hy stuck).1 stuck'
