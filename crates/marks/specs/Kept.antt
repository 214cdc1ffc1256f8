-- Each mark of a table is a well-formed docket of its account, as the table store's law says: a law cites nothing of proofs/.
use Rattle.std.specs.Prelude.{◌≡◌, ℕ, zero, suc, ◌+◌, ◌≤◌, Bool, true, false, cond, not, ◌&&◌, List, [], ◌∷◌, is_some, Some, None, Option, ◌==◌, ◌≢◌, nat_lt, slice_index_or, refl}
use Rattle.std.proofs.Common.{arith, sym, ◌∙◌, ap}
use Rattle.std.proofs.lemmas.Bool.{and_parts, eqb-true, ltb-false, false≢true}
use Rattle.docket.specs.declared.Docket.{Docket}
use Rattle.docket.specs.Layout.{wrong_place}
use Rattle.marks.specs.Marks.{well_formed, MarkOf, is_mark, are_marks, Marked}

none_of : (o : Option ℕ) → not (is_some o) ≡ true → o ≡ None
none_of None h = refl
none_of (Some x) h = absurd (false≢true h)

pub formed : (d : Docket) → well_formed d ≡ true → wrong_place d true ≡ None
formed d h = none_of (wrong_place d true) h

pub some_not_none : {T : Type 0} (x : T) → None ≢ Some x
some_not_none x h = let z : ◌≡◌ {A = ℕ} 0 1 = cc in omega arith

not_first : (b : Bool) (place : ℕ) (o : Option ℕ) → not (is_some (cond b (Some place) o)) ≡ true → b ≡ false
not_first true place o h = absurd (false≢true h)
not_first false place o h = refl

pub account_of_lem : (d : Docket) → well_formed d ≡ true → d.account ≤ 63
account_of_lem d h = ltb-false 63 d.account (not_first (nat_lt 63 d.account) 4 _ h)

at_first : (k : ℕ) (m : Option Docket) (d : Docket) → is_mark k m ≡ true → m ≡ Some d → (d.account ≡ k) × (well_formed d ≡ true)
at_first k m d h e =
    let g : (d.account == k && well_formed d) ≡ true = sym (ap (is_mark k) e) ∙ h in
    let p = and_parts (d.account == k) (well_formed d) g in
    (eqb-true _ _ p.0, p.1)

pub mark_at : (k : ℕ) (ms : List (Option Docket)) (a : ℕ) (d : Docket) → are_marks k ms ≡ true → slice_index_or ms a None ≡ Some d → (d.account ≡ k + a) × (well_formed d ≡ true)
mark_at k [] a d h e = absurd (some_not_none d e)
mark_at k (m ∷ ms) zero d h e =
    let p = at_first k m d (and_parts (is_mark k m) (are_marks (k + 1) ms) h).0 e in
    (omega (arith, p.0), p.1)
mark_at k (m ∷ ms) (suc a) d h e =
    let p = mark_at (k + 1) ms a d (and_parts (is_mark k m) (are_marks (k + 1) ms) h).1 e in
    (omega (arith, p.0), p.1)

pub mark_of : (ms : List (Option Docket)) (a : ℕ) (d : Docket) → Marked ms → slice_index_or ms a None ≡ Some d → MarkOf a d
mark_of ms a d own e =
    let p = mark_at 0 ms a d own.1 e in
    let s = account_of_lem d p.1 in
    (formed d p.1, omega (arith, p.0), omega (arith, p.0))
