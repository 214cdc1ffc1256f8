-- The next numbers along an order: they rise past just the dockets that settled. Assumes nothing.
use Rattle.std.proofs.Common.{◌≡◌, ℕ, ◌+◌, ◌<◌, ◌≤◌, Bool, List, [], ◌∷◌, Some, sym, refl, ap, ◌∙◌, subst, inl, inr, ⊎_elim, arith}
use Rattle.std.proofs.lemmas.Bool.{cases_eq}
use Rattle.docket.specs.declared.Docket.{Docket}
use Rattle.settling.specs.Order.{In, Progress, settled}
use Rattle.settling.proofs.OrderRuns.{Run}
use Rattle.settling.proofs.OrderDockets.{raised_own, raised_other, settling_from}

module _ {State : Type 0} (valid : State → ℕ → List ℕ → Bool) (next : State → ℕ → List ℕ → State) where
  -- the next numbers after a docket
  own : (p q : Progress State) (d : Docket) → settled valid next p d ≡ Some q → q.due d.account ≡ p.due d.account + 1
  own p q d e = ap (λ (f : ℕ → ℕ). f d.account) (settling_from valid next p q d e).2 ∙ raised_own p.due d.account

  other : (p q : Progress State) (d : Docket) (a : ℕ) → (d.account ≡ a → ⊥) → settled valid next p d ≡ Some q → q.due a ≡ p.due a
  other p q d a n e = ap (λ (f : ℕ → ℕ). f a) (settling_from valid next p q d e).2 ∙ raised_other p.due d.account a n

  rises : (p q : Progress State) (d : Docket) (a : ℕ) → settled valid next p d ≡ Some q → p.due a ≤ q.due a
  rises p q d a e =
      ⊎_elim (λ s. let o = own p q d e in let x = ap p.due s in let y = ap q.due s in omega arith)
      (λ n. let o = other p q d a n e in omega arith) (cases_eq d.account a)

  pub all_rise : (p q : Progress State) (xs : List Docket) (a : ℕ) → Run (settled valid next) p xs q → p.due a ≤ q.due a
  all_rise p q [] a run = let e = ap (λ (x : Progress State). x.due a) run in omega arith
  all_rise p q (x ∷ xs) a run =
      let one = rises p run.0 x a run.1 in
      let rest = all_rise run.0 q xs a run.2 in
      omega arith

  pub number_passed : (p q : Progress State) (xs : List Docket) (d : Docket) → Run (settled valid next) p xs q → In d xs → d.number < q.due d.account
  number_passed p q [] d run i = absurd i
  number_passed p q (x ∷ xs) d run (inl e) =
      let o = own p run.0 x run.1 in
      let n = (settling_from valid next p run.0 x run.1).0 in
      let rest = all_rise run.0 q xs x.account run.2 in
      subst (λ (c : Docket). c.number < q.due c.account) (sym e) (omega arith)
  number_passed p q (x ∷ xs) d run (inr i) = number_passed run.0 q xs d run.2 i

  pub passed_by : (p q : Progress State) (xs : List Docket) (a n : ℕ) → Run (settled valid next) p xs q → p.due a ≤ n → n < q.due a → (d : Docket) × In d xs × (d.account ≡ a) × (d.number ≡ n)
  passed_by p q [] a n run low high = let e = ap (λ (x : Progress State). x.due a) run in absurd (omega arith)
  passed_by p q (x ∷ xs) a n run low high =
      let later : run.0.due a ≤ n → (d : Docket) × In d (x ∷ xs) × (d.account ≡ a) × (d.number ≡ n) = λ low'.
      let c = passed_by run.0 q xs a n run.2 low' high in
      (c.0, inr c.1, c.2, c.3) in
      let mine : x.account ≡ a → (d : Docket) × In d (x ∷ xs) × (d.account ≡ a) × (d.number ≡ n) = λ s.
      let o = own p run.0 x run.1 in
      let y = ap p.due s in
      let z = ap run.0.due s in
      ⊎_elim (λ t. (x, inl refl, s, (settling_from valid next p run.0 x run.1).0 ∙ (y ∙ sym t))) (λ t. later (omega arith)) (cases_eq n (p.due a)) in
      ⊎_elim mine (λ t. let o = other p run.0 x a t run.1 in later (omega arith)) (cases_eq x.account a)
