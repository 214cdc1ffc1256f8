-- A move of a pair is one of its first book or of its second; moves of different sides never meet.
use Rattle.std.specs.Prelude.{◌≡◌, ℕ, Bool, true, false, cond, List, refl}
use Rattle.std.proofs.Common.{ap, inl, inr}
use Rattle.book.specs.Law.{Move, valid_move, next_move, after, EitherOrder, WeaklyIndependent}
use Rattle.book.specs.Line.{kind}
use Rattle.books.specs.Pair.{Both, both, pair_next, pair_valid}
use Rattle.books.specs.Below.{Seen, either_order_below}

module _ {S T : Type 0} (listed : ℕ → Bool) (valid : S → ℕ → List ℕ → Bool) (next : S → ℕ → List ℕ → S) (valid' : T → ℕ → List ℕ → Bool) (next' : T → ℕ → List ℕ → T) where
  abbrev valid_at : Bool → Both S T → Move → Bool
  valid_at side s m = cond side (valid_move valid s.first m) (valid_move valid' s.second m)

  abbrev next_at : Bool → Both S T → Move → Both S T
  next_at side s m = cond side (both (next_move next s.first m) s.second) (both s.first (next_move next' s.second m))

  first_sees : (side : Bool) (s : Both S T) (m : Move) → valid_at side s m ≡ true → Seen valid next s.first m (next_at side s m).first
  first_sees true s m made = inl (made, refl)
  first_sees false s m made = inr refl

  second_sees : (side : Bool) (s : Both S T) (m : Move) → valid_at side s m ≡ true → Seen valid' next' s.second m (next_at side s m).second
  second_sees true s m made = inr refl
  second_sees false s m made = inl (made, refl)

  -- the sides of m and n, and what the law says on each
  by_sides : (p q : Bool) (s : Both S T) (m n : Move)
      → (valid_move valid s.first m ≡ true → valid_move valid s.first n ≡ true → EitherOrder valid next s.first m n)
      → (valid_move valid' s.second m ≡ true → valid_move valid' s.second n ≡ true → EitherOrder valid' next' s.second m n)
      → valid_at p s m ≡ true → valid_at q s n ≡ true
      → (valid_at p (next_at q s n) m ≡ true) × (valid_at q (next_at p s m) n ≡ true) × (next_at q (next_at p s m) n ≡ next_at p (next_at q s n) m)
  by_sides true true s m n law law' c d = let e = law c d in (e.first_stays, e.second_stays, ap (λ x. both x s.second) e.same_end)
  by_sides true false s m n law law' c d = (c, d, refl)
  by_sides false true s m n law law' c d = (c, d, refl)
  by_sides false false s m n law law' c d = let e = law' c d in (e.first_stays, e.second_stays, ap (λ x. both s.first x) e.same_end)

  pub pair_independent : (s : Both S T) → WeaklyIndependent valid next s.first → WeaklyIndependent valid' next' s.second → WeaklyIndependent (pair_valid listed valid valid') (pair_next listed next next') s
  pair_independent s law law' before m n made apart c d =
      let pv = pair_valid listed valid valid' in
      let pn = pair_next listed next next' in
      let one = either_order_below pv pn valid next (λ t. t.first) (λ t k. first_sees (listed (kind k.line)) t k) s before made law m n apart in
      let two = either_order_below pv pn valid' next' (λ t. t.second) (λ t k. second_sees (listed (kind k.line)) t k) s before made law' m n apart in
      let e = by_sides (listed (kind m.line)) (listed (kind n.line)) (after pn s before) m n one two c d in
      record { first_stays = e.0; second_stays = e.1; same_end = e.2 }
