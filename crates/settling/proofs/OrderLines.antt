-- Weak independence, from single lines to all the lines of two accounts. Assumes nothing but the law.
use Rattle.std.proofs.Common.{◌≡◌, ℕ, Bool, true, false, cond, List, [], ◌∷◌, ◌++◌, Some, None, Option, sym, refl, ap, ◌∙◌, subst}
use Rattle.std.proofs.lemmas.Option.{none-some, same_Some}
use Rattle.std.proofs.lemmas.Bool.{and_from}
use Rattle.book.specs.Law.{Move, after, all_valid, EitherOrder, WeaklyIndependent}
use Rattle.book.proofs.Moves.{after_append, all_valid_append}
use Rattle.settling.specs.Settle.{after_lines}

pub cond_some : {T : Type 0} (b : Bool) (o : Option T) (t : T) → cond b o None ≡ Some t → (b ≡ true) × (o ≡ Some t)
cond_some true o t e = (refl, e)
cond_some false o t e = absurd (none-some t e)

-- a state that valid moves reach from the opening
abbrev pub Reached : {State : Type 0} → (State → ℕ → List ℕ → Bool) → (State → ℕ → List ℕ → State) → State → State → Type 0
Reached valid next opening s = (before : List Move) × (all_valid valid next opening before ≡ true) × (after next opening before ≡ s)

-- an account's lines, each valid in its turn, from a state to a state
abbrev Lines : {State : Type 0} → (State → ℕ → List ℕ → Bool) → (State → ℕ → List ℕ → State) → ℕ → State → List (List ℕ) → State → Type 0
Lines valid next a s [] t = s ≡ t
Lines valid next a s (l ∷ ls) t = (valid s a l ≡ true) × Lines valid next a (next s a l) ls t

module _ {State : Type 0} (valid : State → ℕ → List ℕ → Bool) (next : State → ℕ → List ℕ → State) where
  lines_from : (a : ℕ) (s t : State) (ls : List (List ℕ)) → after_lines valid next a s ls ≡ Some t → Lines valid next a s ls t
  lines_from a s t [] e = same_Some s t e
  lines_from a s t (l ∷ ls) e =
      let c = cond_some (valid s a l) (after_lines valid next a (next s a l) ls) t e in
      (c.0, lines_from a (next s a l) t ls c.1)

  after_lines_lem : (a : ℕ) (s t : State) (ls : List (List ℕ)) → Lines valid next a s ls t → after_lines valid next a s ls ≡ Some t
  after_lines_lem a s t [] h = ap Some h
  after_lines_lem a s t (l ∷ ls) h = ap (λ b. cond b (after_lines valid next a (next s a l) ls) None) h.0 ∙ after_lines_lem a (next s a l) t ls h.1

  module _ (opening : State) where
    pub reached_opening : Reached valid next opening opening
    reached_opening = ([], refl, refl)

    reached_line : (a : ℕ) (l : List ℕ) (s : State) → Reached valid next opening s → valid s a l ≡ true → Reached valid next opening (next s a l)
    reached_line a l s r v =
        let m : Move = record { account = a; line = l } in
        let one : all_valid valid next (after next opening r.0) (m ∷ []) ≡ true = and_from _ _ (ap (λ x. valid x a l) r.2 ∙ v) refl in (
          r.0 ++ m ∷ [],
          all_valid_append valid next opening r.0 (m ∷ []) ∙ and_from _ _ r.1 one,
          after_append next opening r.0 (m ∷ []) ∙ ap (λ x. next x a l) r.2,
        )

    reached_lines : (a : ℕ) (s t : State) (ls : List (List ℕ)) → Reached valid next opening s → Lines valid next a s ls t → Reached valid next opening t
    reached_lines a s t [] r h = subst (Reached valid next opening) h r
    reached_lines a s t (l ∷ ls) r h = reached_lines a (next s a l) t ls (reached_line a l s r h.0) h.1

    pub reached_after : (a : ℕ) (s t : State) (ls : List (List ℕ)) → Reached valid next opening s → after_lines valid next a s ls ≡ Some t → Reached valid next opening t
    reached_after a s t ls r e = reached_lines a s t ls r (lines_from a s t ls e)

    module _ (law : WeaklyIndependent valid next opening) (a b : ℕ) (apart : a ≡ b → ⊥) where
      swapped : (s : State) (l k : List ℕ) → Reached valid next opening s → valid s a l ≡ true → valid s b k ≡ true → EitherOrder valid next s (record { account = a; line = l }) (record { account = b; line = k })
      swapped s l k r v w =
          let m : Move = record { account = a; line = l } in
          let n : Move = record { account = b; line = k } in
          subst (λ x. EitherOrder valid next x m n) r.2 (law r.0 m n r.1 apart (ap (λ x. valid x a l) r.2 ∙ v) (ap (λ x. valid x b k) r.2 ∙ w))

      -- a line of one account, and lines of the other
      past : (s t : State) (l : List ℕ) (ks : List (List ℕ)) → Reached valid next opening s → valid s a l ≡ true → Lines valid next b s ks t → (valid t a l ≡ true) × Lines valid next b (next s a l) ks (next t a l)
      past s t l [] r v h = (ap (λ x. valid x a l) (sym h) ∙ v, ap (λ x. next x a l) h)
      past s t l (k ∷ ks) r v h =
          let both = swapped s l k r v h.0 in
          let later = past (next s b k) t l ks (reached_line b k s r h.0) both.first_stays h.1 in
          (later.0, (both.second_stays, subst (λ x. Lines valid next b x ks (next t a l)) (sym both.same_end) later.1))

      crossed : (s t u : State) (ls ks : List (List ℕ)) → Reached valid next opening s → Lines valid next a s ls t → Lines valid next b s ks u → (v : State) × Lines valid next b t ks v × Lines valid next a u ls v
      crossed s t u [] ks r h g = (u, subst (λ x. Lines valid next b x ks u) h g, refl)
      crossed s t u (l ∷ ls) ks r h g =
          let one = past s u l ks r h.0 g in
          let rest = crossed (next s a l) t (next u a l) ls ks (reached_line a l s r h.0) h.1 one.1 in
          (rest.0, rest.1, (one.0, rest.2))

      -- the lines of two accounts, each valid in one state, go in either order to one end
      pub either_order :
          (s t u : State) (ls ks : List (List ℕ)) → Reached valid next opening s → after_lines valid next a s ls ≡ Some t → after_lines valid next b s ks ≡ Some u
          → (v : State) × (after_lines valid next b t ks ≡ Some v) × (after_lines valid next a u ls ≡ Some v)
      either_order s t u ls ks r h g =
          let c = crossed s t u ls ks r (lines_from a s t ls h) (lines_from b s u ks g) in
          (c.0, after_lines_lem b t c.0 ks c.1, after_lines_lem a u c.0 ls c.2)
