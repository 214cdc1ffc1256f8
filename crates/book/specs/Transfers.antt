-- Transfers of two issuers can be made in either order, as the pallet book's law says: a law cites nothing of proofs/.
use Rattle.std.specs.Prelude.{◌≡◌, ℕ, zero, suc, ◌+◌, ◌-◌, ◌≤◌, true, ◌≢◌, List, [], ◌∷◌, Some, None, Option, slice_index, slice_set, refl}
use Rattle.std.proofs.Common.{ap, sym, ◌∙◌, arith}
use Rattle.book.specs.Law.{Move, EitherOrder}
use Rattle.book.specs.Pallets.{balance, credit, debit, transfer_in, covered, moved, pallet_valid, pallet_next}
use Rattle.book.specs.declared.pallets.Transfer.{Transfer}
use Rattle.std.proofs.lemmas.List.{get_or-set_other}
use Rattle.std.proofs.lemmas.Bool.Decides.{nat_tests}

-- a change of one balance by f
abbrev pub change : (ℕ → ℕ) → ℕ → List ℕ → List ℕ
change f i xs = slice_set xs i (f (slice_index xs i))

-- two changes commute, if they do so at a balance that both change
change_change : (f g : ℕ → ℕ) (i j : ℕ) (xs : List ℕ) → (i ≡ j → f (g (slice_index xs i)) ≡ g (f (slice_index xs i))) → change f i (change g j xs) ≡ change g j (change f i xs)
change_change f g i j [] h = refl
change_change f g zero zero (x ∷ xs) h = ap (λ y. y ∷ xs) (h refl)
change_change f g zero (suc j) (x ∷ xs) h = refl
change_change f g (suc i) zero (x ∷ xs) h = refl
change_change f g (suc i) (suc j) (x ∷ xs) h = ap (λ ys. x ∷ ys) (change_change f g i j xs (λ e. h (ap suc e)))

-- what holds of any balance and itself, and of one and what f makes of it, holds at each account
pub change_at : (R : ℕ → ℕ → Type 0) (f : ℕ → ℕ) → ((n : ℕ) → R n n) → ((n : ℕ) → R n (f n)) → (xs : List ℕ) (i k : ℕ) → R (slice_index xs k) (slice_index (change f i xs) k)
change_at R f same changed [] i k = same 0
change_at R f same changed (x ∷ xs) zero zero = changed x
change_at R f same changed (x ∷ xs) zero (suc k) = same (slice_index xs k)
change_at R f same changed (x ∷ xs) (suc i) zero = same x
change_at R f same changed (x ∷ xs) (suc i) (suc k) = change_at R f same changed xs i k

pub debit_debit : (xs : List ℕ) (i j x y : ℕ) → i ≢ j → debit (debit xs j y) i x ≡ debit (debit xs i x) j y
debit_debit xs i j x y apart = change_change (λ n. n - x) (λ n. n - y) i j xs (λ e. absurd (apart e))

pub credit_credit : (xs : List ℕ) (i j x y : ℕ) → credit (credit xs j y) i x ≡ credit (credit xs i x) j y
credit_credit xs i j x y = change_change (λ n. n + x) (λ n. n + y) i j xs (λ e. omega arith)

-- a debit that the balance covers can come before a credit or after it
pub debit_credit : (xs : List ℕ) (i j x y : ℕ) → x ≤ balance xs i → debit (credit xs j y) i x ≡ credit (debit xs i x) j y
debit_credit xs i j x y covers = change_change (λ n. n - x) (λ n. n + y) i j xs (λ e. omega arith)

-- a transfer takes from no account but its issuer's

credit_grows : (xs : List ℕ) (i x k : ℕ) → balance xs k ≤ balance (credit xs i x) k
credit_grows xs i x k = change_at (λ m n. m ≤ n) (λ n. n + x) (λ n. omega arith) (λ n. omega arith) xs i k

debit_other : (xs : List ℕ) (a x b : ℕ) → b ≢ a → balance (debit xs a x) b ≡ balance xs b
debit_other xs a x b apart = get_or-set_other xs a b (balance xs a - x) 0 apart

grows : (xs : List ℕ) (a b : ℕ) (t : Option Transfer) → b ≢ a → balance xs b ≤ balance (moved xs a t) b
grows xs a b None apart = omega arith
grows xs a b (Some t) apart =
    let e = debit_other xs a t.amount b apart in
    let l = credit_grows (debit xs a t.amount) t.receiver t.amount b in
    omega arith

stays : (xs ys : List ℕ) (a : ℕ) (t : Option Transfer) → covered xs a t ≡ true → balance xs a ≤ balance ys a → covered ys a t ≡ true
stays xs ys a None c l = c
stays xs ys a (Some t) c l = grind (arith, nat_tests)

enough : (xs : List ℕ) (a : ℕ) (t : Transfer) → covered xs a (Some t) ≡ true → t.amount ≤ balance xs a
enough xs a t c = grind (arith, nat_tests)

same_end : (xs : List ℕ) (a b : ℕ) (t u : Option Transfer) → a ≢ b → covered xs a t ≡ true → covered xs b u ≡ true → moved (moved xs a t) b u ≡ moved (moved xs b u) a t
same_end xs a b None u apart c d = refl
same_end xs a b (Some t) None apart c d = refl
same_end xs a b (Some t) (Some u) apart c d =
    let apart' : b ≢ a = λ e. apart (sym e) in
    let covers = enough xs a t c in
    let covers' = enough xs b u d in
    ap (λ ys. credit ys u.receiver u.amount) (debit_credit (debit xs a t.amount) b t.receiver u.amount t.amount (rw debit_other covers'))
    ∙ credit_credit (debit (debit xs a t.amount) b u.amount) u.receiver t.receiver u.amount t.amount
    ∙ ap (λ ys. credit (credit ys u.receiver u.amount) t.receiver t.amount) (debit_debit xs b a u.amount t.amount apart')
    ∙ ap (λ ys. credit ys t.receiver t.amount) (sym (debit_credit (debit xs b u.amount) a u.receiver t.amount u.amount (rw debit_other covers)))

pub either_order : (xs : List ℕ) (m n : Move) → m.account ≢ n.account → pallet_valid xs m.account m.line ≡ true → pallet_valid xs n.account n.line ≡ true → EitherOrder pallet_valid pallet_next xs m n
either_order xs m n apart c d =
    let t = transfer_in m.line in
    let u = transfer_in n.line in
    record {
      first_stays = stays xs (moved xs n.account u) m.account t c (grows xs n.account m.account u apart);
      second_stays = stays xs (moved xs m.account t) n.account u d (grows xs m.account n.account t (λ e. apart (sym e)));
      same_end = same_end xs m.account n.account t u apart c d;
    }
