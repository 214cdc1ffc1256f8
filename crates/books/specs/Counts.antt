-- A line counts for its issuer alone, so the law of the book below holds of the allowance too.
use Rattle.std.specs.Prelude.{◌≡◌, ℕ, ◌+◌, Bool, true, ◌≢◌, List, nat_lt, slice_set, refl}
use Rattle.std.proofs.Common.{ap, sym, ◌∙◌, inl}
use Rattle.book.specs.Law.{Move, valid_move, next_move, after, WeaklyIndependent}
use Rattle.books.specs.Allowance.{Spent, spent, made, allowance_next, allowance_valid}
use Rattle.books.specs.Below.{either_order_below}
use Rattle.std.proofs.lemmas.List.{get_or-set_other, set_comm}
use Rattle.std.proofs.lemmas.Bool.{and_parts, and_from}

abbrev counted : List ℕ → ℕ → List ℕ
counted counts a = slice_set counts a (made counts a + 1)

other_count : (counts : List ℕ) (a b : ℕ) → b ≢ a → made (counted counts a) b ≡ made counts b
other_count counts a b apart = get_or-set_other counts a b (made counts a + 1) 0 apart

both_counted : (counts : List ℕ) (a b : ℕ) → a ≢ b → counted (counted counts a) b ≡ counted (counted counts b) a
both_counted counts a b apart =
    ap (λ k. slice_set (counted counts a) b (k + 1)) (other_count counts a b (λ e. apart (sym e)))
    ∙ set_comm counts a b (made counts a + 1) (made counts b + 1) apart
    ∙ ap (λ k. slice_set (counted counts b) a (k + 1)) (sym (other_count counts b a apart))

module _ {S : Type 0} (valid : S → ℕ → List ℕ → Bool) (next : S → ℕ → List ℕ → S) where
  abbrev over : Spent S → Move → Bool
  over s m = valid_move (allowance_valid valid) s m

  parts : (s : Spent S) (m : Move) → over s m ≡ true → (nat_lt (made s.counts m.account) s.maximum ≡ true) × (valid_move valid s.below m ≡ true)
  parts s m c = and_parts (nat_lt (made s.counts m.account) s.maximum) (valid_move valid s.below m) c

  -- after a line of another account, one stays valid that does so below
  stays : (s : Spent S) (m n : Move) → m.account ≢ n.account → over s m ≡ true → valid_move valid (next_move next s.below n) m ≡ true → over (next_move (allowance_next next) s n) m ≡ true
  stays s m n apart c stays_below =
      and_from (nat_lt (made (counted s.counts n.account) m.account) s.maximum) (valid_move valid (next_move next s.below n) m)
      (ap (λ k. nat_lt k s.maximum) (other_count s.counts n.account m.account apart) ∙ (parts s m c).0)
      stays_below

  ends : (s : Spent S) (m n : Move) → m.account ≢ n.account → next_move next (next_move next s.below m) n ≡ next_move next (next_move next s.below n) m → next_move (allowance_next next) (next_move (allowance_next next) s m) n ≡ next_move (allowance_next next) (next_move (allowance_next next) s n) m
  ends s m n apart end_below =
      ap (λ counts. spent s.maximum counts (next_move next (next_move next s.below m) n)) (both_counted s.counts m.account n.account apart)
      ∙ ap (λ below. spent s.maximum (counted (counted s.counts n.account) m.account) below) end_below

  pub allowance_independent : (s : Spent S) → WeaklyIndependent valid next s.below → WeaklyIndependent (allowance_valid valid) (allowance_next next) s
  allowance_independent s law before m n reached apart c d =
      let t = after (allowance_next next) s before in
      let e = either_order_below (allowance_valid valid) (allowance_next next) valid next (λ u. u.below) (λ u k v. inl ((parts u k v).1, refl)) s before reached law m n apart (parts t m c).1 (parts t n d).1 in
      record {
        first_stays = stays t m n apart c e.first_stays;
        second_stays = stays t n m (λ same. apart (sym same)) d e.second_stays;
        same_end = ends t m n apart e.same_end;
      }
