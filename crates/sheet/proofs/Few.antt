-- At most 64 records are kept, one for each account. Assumes nothing.
use Rattle.std.proofs.Common.{◌≡◌, ℕ, zero, suc, ◌+◌, ◌<◌, ◌≤◌, Bool, true, false, cond, List, [], ◌∷◌, length, is_some, Some, None, Ok, Err, Option, Result, sym, refl, ap, ◌∙◌, inl, inr, one-add, arith}
use Rattle.std.specs.Option.{option_or}
use Rattle.std.proofs.lemmas.Bool.{eq-eqb, ne_eqb, cases_eq, cases_Bool, false≢true, not-true}
use Rattle.refusals.specs.Reading.{Reading}
use Rattle.docket.specs.declared.Docket.{Docket}
use Rattle.docket.specs.Layout.{read_docket}
use Rattle.sheet.specs.Sheet.{records, of_account, last_of, stays_by, keep_last}
use Rattle.sheet.proofs.Places.{or_none, length_records}
use Rattle.sheet.proofs.Keeping.{other_none}
use Rattle.marks.proofs.Kept.{account_read}

bit : Bool → ℕ
bit true = 1
bit false = 0

-- how many numbers below `n` pass
tally : (ℕ → Bool) → ℕ → ℕ
tally p zero = 0
tally p (suc n) = bit (p n) + tally p n

bit_bound : (b : Bool) → bit b ≤ 1
unfolding bit
bit_bound true = omega arith
bit_bound false = omega arith

tally_bound : (p : ℕ → Bool) (n : ℕ) → tally p n ≤ n
unfolding tally
tally_bound p zero = omega arith
tally_bound p (suc n) = let b = bit_bound (p n) in let h = tally_bound p n in omega arith

tally_none : (p : ℕ → Bool) (n : ℕ) → ((a : ℕ) → p a ≡ false) → 0 ≡ tally p n
unfolding tally bit
tally_none p zero h = refl
tally_none p (suc n) h = let e : bit (p n) ≡ 0 = ap bit (h n) in let f = tally_none p n h in omega arith

tally_same : (p q : ℕ → Bool) (n : ℕ) → ((a : ℕ) → a < n → q a ≡ p a) → tally q n ≡ tally p n
unfolding tally
tally_same p q zero h = refl
tally_same p q (suc n) h =
    let e = h n (omega arith) in
    let f = tally_same p q n (λ a l. h a (omega arith)) in
    cc

-- one more passes
tally_more : (p q : ℕ → Bool) (k n : ℕ) → k < n → p k ≡ false → q k ≡ true → ((a : ℕ) → (a ≡ k → ⊥) → q a ≡ p a) → tally q n ≡ 1 + tally p n
unfolding tally bit
tally_more p q k zero l no' yes' h = absurd (omega arith)
tally_more p q k (suc n) l no' yes' h =
    elim (cases_eq k n) [
      | inl e ↦
          let f = tally_same p q n (λ a u. h a (λ z. omega arith)) in
          let x : bit (q n) ≡ 1 = ap bit (ap q (sym e) ∙ yes') in
          let y : bit (p n) ≡ 0 = ap bit (ap p (sym e) ∙ no') in
          omega arith
      | inr ne ↦
          let f = tally_more p q k n (omega arith) no' yes' h in
          let x : bit (q n) ≡ bit (p n) = ap bit (h n (λ z. ne (sym z))) in
          omega arith
    ]

here : (o : Option Docket) (d : Docket) → is_some (option_or o (Some d)) ≡ true
here None d = refl
here (Some x) d = refl

stays_more : (r : List ℕ) (rs : List (List ℕ)) (x : Result Docket Reading) → read_docket r ≡ x → stays_by x rs ≡ true → tally (λ a. is_some (option_or (last_of a rs) (of_account a x))) 64 ≡ 1 + tally (λ a. is_some (last_of a rs)) 64
stays_more r rs (Err e) is h = absurd (false≢true h)
stays_more r rs (Ok d) is h =
    tally_more (λ a. is_some (last_of a rs)) (λ a. is_some (option_or (last_of a rs) (of_account a (Ok d)))) d.account 64
    (let b : d.account ≤ 63 = account_read r d is in omega arith)
    (not-true _ h)
    (ap (λ b. is_some (option_or (last_of d.account rs) (cond b (Some d) None))) (eq-eqb d.account d.account refl) ∙ here (last_of d.account rs) d)
    (λ a ne. ap (λ b. is_some (option_or (last_of a rs) (cond b (Some d) None))) (ne_eqb d.account a (λ e. ne (sym e))) ∙ ap is_some (or_none (last_of a rs)))

kept_tally : (rs : List (List ℕ)) → length (keep_last rs) ≡ tally (λ a. is_some (last_of a rs)) 64
kept_tally [] = tally_none (λ a. false) 64 (λ a. refl)
kept_tally (r ∷ rs) =
    elim (cases_Bool (stays_by (read_docket r) rs)) [
      | inl t ↦
          let e : length (keep_last (r ∷ rs)) ≡ suc (length (keep_last rs)) = ap (λ b. length (cond b (r ∷ keep_last rs) (keep_last rs))) t in
          let m = stays_more r rs (read_docket r) refl t in
          e ∙ (ap suc (kept_tally rs) ∙ (sym (one-add _) ∙ sym m))
      | inr f ↦
          ap (λ b. length (cond b (r ∷ keep_last rs) (keep_last rs))) f
          ∙ (kept_tally rs ∙ sym (tally_same (λ a. is_some (last_of a rs)) (λ a. is_some (option_or (last_of a rs) (of_account a (read_docket r)))) 64
          (λ a l. ap is_some (other_none a rs (read_docket r) f))))
    ]

pub few_left : (n : ℕ) (bs : List ℕ) (rs : List (List ℕ)) → records 0 n bs ≡ keep_last rs → n ≤ 64
few_left n bs rs e =
    let l = length_records 0 n bs in
    let k : length (records 0 n bs) ≡ tally (λ a. is_some (last_of a rs)) 64 = ap length e ∙ kept_tally rs in
    let b = tally_bound (λ a. is_some (last_of a rs)) 64 in
    omega arith
