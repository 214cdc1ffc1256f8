-- Steps in turn, where any two that can be made can be made in either order. Assumes nothing.
use Rattle.std.proofs.Common.{◌≡◌, ◌⊎◌, List, [], ◌∷◌, ◌++◌, Some, None, Option, sym, refl, ap, ◌∙◌, subst, inl, inr, ⊎_elim}
use Rattle.std.proofs.lemmas.Option.{none-some, same_Some}
use Rattle.docket.specs.declared.Docket.{Docket}
use Rattle.settling.specs.Order.{In, Within, if_made, in_turn}

-- a run: each step with what follows it
abbrev pub Run : {P : Type 0} → (P → Docket → Option P) → P → List Docket → P → Type 0
Run step p [] q = p ≡ q
Run {P} step p (d ∷ ds) q = (r : P) × (step p d ≡ Some r) × Run step r ds q

module _ {P : Type 0} (step : P → Docket → Option P) where
  made : (o : Option P) (rest : P → Option P) (q : P) → if_made o rest ≡ Some q → (r : P) × (o ≡ Some r) × (rest r ≡ Some q)
  made None rest q h = absurd (none-some q h)
  made (Some r) rest q h = (r, refl, h)

  pub run_from : (p q : P) (ds : List Docket) → in_turn step p ds ≡ Some q → Run step p ds q
  run_from p q [] e = same_Some p q e
  run_from p q (d ∷ ds) e =
      let m = made (step p d) (λ r. in_turn step r ds) q e in
      (m.0, m.1, run_from m.0 q ds m.2)

  pub in_turn_lem : (p q : P) (ds : List Docket) → Run step p ds q → in_turn step p ds ≡ Some q
  in_turn_lem p q [] e = ap Some e
  in_turn_lem p q (d ∷ ds) run = ap (λ o. if_made o (λ r. in_turn step r ds)) run.1 ∙ in_turn_lem run.0 q ds run.2

  -- one more step
  pub run_push : (p q r : P) (ds : List Docket) (d : Docket) → Run step p ds q → step q d ≡ Some r → Run step p (ds ++ d ∷ []) r
  run_push p q r [] d run s = (r, ap (λ x. step x d) run ∙ s, refl)
  run_push p q r (e ∷ ds) d run s = (run.0, run.1, run_push run.0 q r ds d run.2 s)

abbrev AllOf : (Docket → Type 0) → List Docket → Type 0
AllOf Mine ds = (d : Docket) → In d ds → Mine d

-- from q, after d, the rest of a run to r
abbrev Moved : {P : Type 0} → (P → Docket → Option P) → P → Docket → List Docket → P → Type 0
Moved step q d xs r = In d xs × (rest : List Docket) × Within rest xs × Run step q rest r

abbrev Stuck : {P : Type 0} → (P → Docket → Option P) → (Docket → Type 0) → P → Type 0
Stuck step Mine p = (d : Docket) → Mine d → step p d ≡ None

module _
    {P : Type 0} (step : P → Docket → Option P) (Good : P → Type 0) (Mine : Docket → Type 0)
    (keeps : (p q : P) (d : Docket) → Good p → Mine d → step p d ≡ Some q → Good q)
    (diamond : (p q r : P) (d e : Docket) → Good p → Mine d → Mine e → step p d ≡ Some q → step p e ≡ Some r → (d ≡ e) ⊎ ((t : P) × (step q e ≡ Some t) × (step r d ≡ Some t)))
  where
    -- a docket that can be taken at the start of a run is in it, and can be moved to its front, or can be taken at its end
    front : (p q r : P) (d : Docket) (xs : List Docket) → Good p → Mine d → AllOf Mine xs → step p d ≡ Some q → Run step p xs r → Moved step q d xs r ⊎ ((t : P) × (step r d ≡ Some t))
    front p q r d [] g md mx h run = inr (q, ap (λ x. step x d) (sym run) ∙ h)
    front p q r d (x ∷ xs) g md mx h run =
        let here : d ≡ x → Moved step q d (x ∷ xs) r ⊎ ((t : P) × (step r d ≡ Some t)) = λ e.
        let same = same_Some q run.0 (sym h ∙ (ap (step p) e ∙ run.1)) in
        inl (inl e, xs, λ c i. inr i, subst (λ y. Run step y xs r) (sym same) run.2) in
        let there : (t : P) × (step q x ≡ Some t) × (step run.0 d ≡ Some t) → Moved step q d (x ∷ xs) r ⊎ ((t : P) × (step r d ≡ Some t)) = λ b.
        let later = front run.0 b.0 r d xs (keeps p run.0 x g (mx x (inl refl)) run.1) md (λ c i. mx c (inr i)) b.2 run.2 in
        ⊎_elim (λ m. inl (inr m.0, x ∷ m.1, λ c. ⊎_elim (λ e. inl e) (λ i. inr (m.2 c i)), (b.0, b.1, m.3))) (λ m. inr m) later in
        ⊎_elim here there (diamond p q run.0 d x g md (mx x (inl refl)) h run.1)

    none_left : (p r : P) (xs : List Docket) → AllOf Mine xs → Run step p xs r → Stuck step Mine p → r ≡ p
    none_left p r [] mx run st = sym run
    none_left p r (x ∷ xs) mx run st = absurd (none-some run.0 (sym (st x (mx x (inl refl))) ∙ run.1))

    pub confluent :
        (p r s : P) (xs ys : List Docket) → Good p → AllOf Mine xs → AllOf Mine ys → Run step p xs r → Run step p ys s
        → Stuck step Mine r → Within ys xs × (Stuck step Mine s → r ≡ s)
    confluent p r s xs [] g mx my rx ry st = (λ d i. absurd i, λ ss. none_left p r xs mx rx (subst (Stuck step Mine) (sym ry) ss) ∙ ry)
    confluent p r s xs (y ∷ ys) g mx my rx ry st =
        let mine = my y (inl refl) in
        let go : Moved step ry.0 y xs r → Within (y ∷ ys) xs × (Stuck step Mine s → r ≡ s) = λ m.
        let later = confluent ry.0 r s m.1 ys (keeps p ry.0 y g mine ry.1) (λ d i. mx d (m.2 d i)) (λ d i. my d (inr i)) m.3 ry.2 st in
        (λ d. ⊎_elim (λ e. subst (λ c. In c xs) (sym e) m.0) (λ i. m.2 d (later.0 d i)), later.1) in
        ⊎_elim go (λ t. absurd (none-some t.0 (sym (st y mine) ∙ t.1))) (front p ry.0 r y xs g mine mx ry.1 rx)
