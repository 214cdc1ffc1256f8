-- The moves of a layer, as a book below it sees them: the law below holds in every state that they reach.
use Rattle.std.specs.Prelude.{◌≡◌, ℕ, Bool, true, ◌⊎◌, List, [], ◌∷◌, ◌≢◌, refl}
use Rattle.std.proofs.Common.{subst, inl, inr}
use Rattle.book.specs.Law.{Move, valid_move, next_move, after, all_valid, EitherOrder, WeaklyIndependent}
use Rattle.std.proofs.lemmas.Bool.{and_parts, and_from}

-- a move of the layer is a valid move below, from s to t, or leaves s as it is
abbrev pub Seen : {State : Type 0} → (State → ℕ → List ℕ → Bool) → (State → ℕ → List ℕ → State) → State → Move → State → Type 0
Seen valid next s m t = ((valid_move valid s m ≡ true) × (t ≡ next_move next s m)) ⊎ (t ≡ s)

-- valid moves lead from s to t
record Reached {State : Type 0} (valid : State → ℕ → List ℕ → Bool) (next : State → ℕ → List ℕ → State) (s t : State) : Type 0 where
  moves : List Move
  made : all_valid valid next s moves ≡ true
  ends : after next s moves ≡ t

module _ {State : Type 0} (valid : State → ℕ → List ℕ → Bool) (next : State → ℕ → List ℕ → State) where
  one_more : (s t u : State) (m : Move) → Seen valid next s m t → Reached valid next t u → Reached valid next s u
  one_more s t u m (inl made) r =
      record {
        moves = m ∷ r.moves;
        made = and_from (valid_move valid s m) (all_valid valid next (next_move next s m) r.moves) made.0 (subst (λ x. all_valid valid next x r.moves ≡ true) made.1 r.made);
        ends = subst (λ x. after next x r.moves ≡ u) made.1 r.ends;
      }
  one_more s t u m (inr same) r = subst (λ x. Reached valid next x u) same r

  reached_either_order : (s t : State) → WeaklyIndependent valid next s → Reached valid next s t → (m n : Move) → (m.account ≢ n.account) → valid_move valid t m ≡ true → valid_move valid t n ≡ true → EitherOrder valid next t m n
  reached_either_order s t law r m n apart =
      subst (λ x. valid_move valid x m ≡ true → valid_move valid x n ≡ true → EitherOrder valid next x m n) r.ends (law r.moves m n r.made apart)

module _ {Over State : Type 0} (valid' : Over → ℕ → List ℕ → Bool) (next' : Over → ℕ → List ℕ → Over) (valid : State → ℕ → List ℕ → Bool) (next : State → ℕ → List ℕ → State) (view : Over → State) (sees : (s : Over) (m : Move) → valid_move valid' s m ≡ true → Seen valid next (view s) m (view (next_move next' s m))) where
  reached : (s : Over) (ms : List Move) → all_valid valid' next' s ms ≡ true → Reached valid next (view s) (view (after next' s ms))
  reached s [] made = record { moves = []; made = refl; ends = refl }
  reached s (m ∷ ms) made =
      let parts = and_parts (valid_move valid' s m) (all_valid valid' next' (next_move next' s m) ms) made in
      one_more valid next (view s) (view (next_move next' s m)) (view (after next' s (m ∷ ms))) m (sees s m parts.0) (reached (next_move next' s m) ms parts.1)

  pub either_order_below : (s : Over) (before : List Move) → all_valid valid' next' s before ≡ true → WeaklyIndependent valid next (view s) → (m n : Move) → (m.account ≢ n.account) → valid_move valid (view (after next' s before)) m ≡ true → valid_move valid (view (after next' s before)) n ≡ true → EitherOrder valid next (view (after next' s before)) m n
  either_order_below s before made law = reached_either_order valid next (view s) (view (after next' s before)) law (reached s before made)
