-- What storing and advancing keep of the accounts' bounds. Assumes nothing.
use Rattle.std.proofs.Common.{◌≡◌, ℕ, zero, suc, ◌%◌, ◌<◌, ◌≤◌, Bool, true, false, cond, ◌&&◌, eqb, leb, List, [], ◌∷◌, length, get_or, set, is_some, Some, None, Option, sym, refl, ap, ◌∙◌, subst, arith}
use Rattle.std.proofs.lemmas.List.{length-set, get_or_default}
use Rattle.std.proofs.lemmas.Bool.{and_parts, and_from, leb-true, le-leb, eqb-true, eq-eqb, false≢true}
use Rattle.docket.specs.declared.Docket.{Docket}
use Rattle.settling.specs.declared.account.Account.{Account}
use Rattle.settling.specs.Window.{fresh, cell, of_number, waiting, placed, advanced, account_of, numbered, all_numbered, bounded_account, all_bounded, Bounded}

numbered_at : (cs : List (Option Docket)) (i : ℕ) → all_numbered cs ≡ true → numbered (get_or cs i None) ≡ true
numbered_at [] i h = refl
numbered_at (c ∷ cs) zero h = (and_parts (numbered c) (all_numbered cs) h).0
numbered_at (c ∷ cs) (suc i) h = numbered_at cs i (and_parts (numbered c) (all_numbered cs) h).1

numbered_set : (cs : List (Option Docket)) (i : ℕ) (x : Option Docket) → all_numbered cs ≡ true → numbered x ≡ true → all_numbered (set cs i x) ≡ true
numbered_set [] i x h n = refl
numbered_set (c ∷ cs) zero x h n = and_from (numbered x) (all_numbered cs) n (and_parts (numbered c) (all_numbered cs) h).1
numbered_set (c ∷ cs) (suc i) x h n =
    let p = and_parts (numbered c) (all_numbered cs) h in
    and_from (numbered c) (all_numbered (set cs i x)) p.0 (numbered_set cs i x p.1 n)

bounded_at : (rows : List Account) (a : ℕ) → all_bounded rows ≡ true → bounded_account (account_of rows a) ≡ true
bounded_at [] a h = refl
bounded_at (r ∷ rs) zero h = (and_parts (bounded_account r) (all_bounded rs) h).0
bounded_at (r ∷ rs) (suc a) h = bounded_at rs a (and_parts (bounded_account r) (all_bounded rs) h).1

bounded_set : (rows : List Account) (a : ℕ) (x : Account) → all_bounded rows ≡ true → bounded_account x ≡ true → all_bounded (set rows a x) ≡ true
bounded_set [] a x h n = refl
bounded_set (r ∷ rs) zero x h n = and_from (bounded_account x) (all_bounded rs) n (and_parts (bounded_account r) (all_bounded rs) h).1
bounded_set (r ∷ rs) (suc a) x h n =
    let p = and_parts (bounded_account r) (all_bounded rs) h in
    and_from (bounded_account r) (all_bounded (set rs a x)) p.0 (bounded_set rs a x p.1 n)

pub bounded_after : (rows : List Account) (a : ℕ) (x : Account) → Bounded rows → bounded_account x ≡ true → Bounded (set rows a x)
bounded_after rows a x b n = (length-set rows a x ∙ b.0, bounded_set rows a x b.1 n)

-- the parts of an account's bounds
pub parts : (a : Account) → bounded_account a ≡ true → (a.next ≤ 1099511627777) × (length a.cells ≡ 4) × (all_numbered a.cells ≡ true)
parts a h =
    let p = and_parts (leb a.next 1099511627777) (eqb (length a.cells) 4 && all_numbered a.cells) h in
    let q = and_parts (eqb (length a.cells) 4) (all_numbered a.cells) p.1 in
    (leb-true _ _ p.0, eqb-true _ _ q.0, q.1)

whole : (a : Account) → a.next ≤ 1099511627777 → length a.cells ≡ 4 → all_numbered a.cells ≡ true → bounded_account a ≡ true
whole a n l c = and_from _ _ (le-leb _ _ n) (and_from _ _ (eq-eqb _ _ l) c)

pub cells_of : (rows : List Account) (a : ℕ) → Bounded rows → length (account_of rows a).cells ≡ 4
cells_of rows a b = (parts (account_of rows a) (bounded_at rows a b.1)).1

placed_bounded : (a : Account) (d : Docket) → bounded_account a ≡ true → d.number ≤ 1099511627776 → bounded_account (placed a d) ≡ true
placed_bounded a d h n =
    let p = parts a h in
    whole (placed a d) p.0 (length-set a.cells (d.number % 4) (Some d) ∙ p.1)
    (numbered_set a.cells (d.number % 4) (Some d) p.2 (le-leb _ _ n))

pub stored_bounded : (rows : List Account) (a : ℕ) (d : Docket) → Bounded rows → d.number ≤ 1099511627776 → Bounded (set rows a (placed (account_of rows a) d))
stored_bounded rows a d b n = bounded_after rows a (placed (account_of rows a) d) b (placed_bounded (account_of rows a) d (bounded_at rows a b.1) n)

-- a docket that waits has the number that it waits under
kept_number : (t : Bool) (d : Docket) → is_some (cond t (Some d) None) ≡ true → t ≡ true
kept_number true d e = refl
kept_number false d e = e

number_of : (n : ℕ) (o : Option Docket) → is_some (of_number n o) ≡ true → numbered o ≡ true → n ≤ 1099511627776
number_of n None e h = absurd (false≢true e)
number_of n (Some d) e h =
    let b = leb-true d.number 1099511627776 h in
    let q : eqb d.number n ≡ true = kept_number (eqb d.number n) d e in
    let r = eqb-true d.number n q in
    omega arith

pub due_bound : (rows : List Account) (a : ℕ) → Bounded rows → is_some (waiting (account_of rows a) (account_of rows a).next) ≡ true → (account_of rows a).next ≤ 1099511627776
due_bound rows a b w =
    let r = account_of rows a in
    let p = parts r (bounded_at rows a b.1) in
    number_of r.next (cell r r.next) w (numbered_at r.cells (r.next % 4) p.2)

pub advanced_bounded :
    (rows : List Account) (a : ℕ) → Bounded rows → is_some (waiting (account_of rows a) (account_of rows a).next) ≡ true
    → Bounded (set rows a (advanced (account_of rows a)))
advanced_bounded rows a b w =
    let r = account_of rows a in
    let p = parts r (bounded_at rows a b.1) in
    let n = due_bound rows a b w in
    bounded_after rows a (advanced r) b
    (whole (advanced r) (omega arith) (length-set r.cells (r.next % 4) None ∙ p.1) (numbered_set r.cells (r.next % 4) None p.2 refl))

-- an element of the list, whatever stands for one that is not there
pub account_read : (rows : List Account) (a : ℕ) (other : Account) → a < length rows → get_or rows a other ≡ account_of rows a
account_read rows a other h = get_or_default rows a other fresh h

pub store_keeps : (rows : List Account) (d : Docket) (x : Account) → Bounded rows → d.number ≤ 1099511627776 → x ≡ placed (account_of rows d.account) d → Bounded (set rows d.account x)
store_keeps rows d x b n e = subst (λ (y : Account). Bounded (set rows d.account y)) (sym e) (stored_bounded rows d.account d b n)

pub advance_keeps :
    (rows : List Account) (a : ℕ) (old x : Account) → Bounded rows → is_some (waiting (account_of rows a) (account_of rows a).next) ≡ true
    → old ≡ account_of rows a → x ≡ advanced old → Bounded (set rows a x)
advance_keeps rows a old x b w o e = subst (λ (y : Account). Bounded (set rows a y)) (sym (e ∙ ap advanced o)) (advanced_bounded rows a b w)
