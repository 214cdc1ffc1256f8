-- Moves, and then more moves.
use Rattle.std.proofs.Common.{◌≡◌, ℕ, Bool, ◌&&◌, List, [], ◌∷◌, ◌++◌, sym, refl, ap, ◌∙◌}
use Rattle.std.proofs.Math.Bool.{and_assoc}
use Rattle.book.specs.Law.{Move, valid_move, next_move, after, all_valid}

pub after_append : {State : Type 0} (next : State → ℕ → List ℕ → State) (s : State) (ms ns : List Move) → after next s (ms ++ ns) ≡ after next (after next s ms) ns
after_append next s [] ns = refl
after_append next s (m ∷ ms) ns = after_append next (next_move next s m) ms ns

pub all_valid_append : {State : Type 0} (valid : State → ℕ → List ℕ → Bool) (next : State → ℕ → List ℕ → State) (s : State) (ms ns : List Move) → all_valid valid next s (ms ++ ns) ≡ (all_valid valid next s ms && all_valid valid next (after next s ms) ns)
all_valid_append valid next s [] ns = refl
all_valid_append valid next s (m ∷ ms) ns =
    ap (λ v. valid_move valid s m && v) (all_valid_append valid next (next_move next s m) ms ns)
    ∙ sym (and_assoc (valid_move valid s m) (all_valid valid next (next_move next s m) ms) (all_valid valid next (after next (next_move next s m) ms) ns))
