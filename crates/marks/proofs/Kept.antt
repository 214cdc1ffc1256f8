-- What tables of marks hold, and keep. Assumes nothing.
use Rattle.std.proofs.Common.{◌≡◌, ℕ, zero, suc, ◌+◌, ◌≤◌, Bool, true, false, cond, not, ltb, List, [], ◌∷◌, length, get_or, replicate, set, refl, sym, ap, ◌∙◌, subst, inl, inr, arith, Some, None, Ok, Err}
use Rattle.std.specs.Prelude.{is_some, IfSome, is_ok, Option, Result, OnOk, nat_lt}
use Rattle.std.proofs.lemmas.List.{length-set, get_or-replicate, get_or_past, length-replicate}
use Rattle.std.proofs.lemmas.Bool.{and_parts, and_from, eq-eqb, le-ltb, cases_lt, false≢true}
use Rattle.refusals.specs.Reading.{Reading, found, and_then, judged}
use Rattle.refusals.specs.declared.Layer.TheVariants as layer
use Rattle.refusals.specs.declared.Cause.TheVariants as cause
use Rattle.docket.specs.declared.Docket.{Docket}
use Rattle.docket.specs.declared.faults.DocketFault.{DocketFault}
use Rattle.docket.specs.Faults.{docket_reading}
use Rattle.docket.specs.Layout.{wrong_place, unless_wrong, encoded, Sized, read_docket}
use Rattle.docket.proofs.RoundTrip.{reads, length_encoded, read_says}
use Rattle.docket.specs.Layout as docket
use Rattle.marks.specs.Kept.{formed, some_not_none, account_of_lem, mark_at}
use Rattle.marks.specs.Marks.{well_formed, is_mark, are_marks, Marked}

marks_set : (k : ℕ) (ms : List (Option Docket)) (a : ℕ) (d : Docket) → are_marks k ms ≡ true → d.account ≡ k + a → well_formed d ≡ true → are_marks k (set ms a (Some d)) ≡ true
marks_set k [] a d h e w = refl
marks_set k (m ∷ ms) zero d h e w =
    let q : d.account ≡ k = omega arith in
    and_from _ _ (and_from _ _ (eq-eqb _ _ q) w) (and_parts (is_mark k m) (are_marks (k + 1) ms) h).1
marks_set k (m ∷ ms) (suc a) d h e w =
    let p = and_parts (is_mark k m) (are_marks (k + 1) ms) h in
    and_from _ _ p.0 (marks_set (k + 1) ms a d p.1 (omega arith) w)

pub marked_set : (ms : List (Option Docket)) (k : ℕ) (d : Docket) → k ≡ d.account → Marked ms → well_formed d ≡ true → Marked (set ms k (Some d))
marked_set ms k d e own w = (length-set ms k (Some d) ∙ own.0, marks_set 0 ms k d own.1 (omega arith) w)

abbrev none : Option Docket
none = None

pub unmarked : (n a : ℕ) → get_or (replicate n none) a None ≡ None
unmarked n a =
    elim (cases_lt a n) [
      | inl h ↦ get_or-replicate n a None None h
      | inr h ↦ get_or_past (replicate n None) a None (let l = length-replicate n none in omega arith)
    ]

-- what the docket's writer answers tells whether the docket is well formed
ok_judged : {T E : Type 0} (reading : E → Reading) (r : Result T E) → is_ok (judged reading r) ≡ is_ok r
ok_judged reading (Ok x) = refl
ok_judged reading (Err e) = refl

pub made_ok : {T E : Type 0} (P : Type 0) (r : Result T E) → is_ok r ≡ true → OnOk r (P) → P
made_ok P (Ok x) h m = m
made_ok P (Err e) h m = absurd (false≢true h)

ok_written : (o : Option ℕ) (out : List ℕ) → length out ≡ 80 → is_ok (and_then (unless_wrong (tt {0}) o) (λ _. cond (nat_lt (length out) 80) (Err (found layer.Docket cause.ShortBuffer 0)) (Ok (tt {0})))) ≡ not (is_some o)
ok_written None out l = let t : ltb (length out) 80 ≡ false = le-ltb _ _ (omega arith) in rw t
ok_written (Some place) out l = refl

pub formed_answer : (d : Docket) (out : List ℕ) (r : Result (Unit {0}) DocketFault) → length out ≡ 80 → judged docket_reading r ≡ docket.write_answer d out → is_ok r ≡ well_formed d
unfolding docket.write_answer
formed_answer d out r l e = sym (ok_judged docket_reading r) ∙ (ap is_ok e ∙ ok_written (wrong_place d true) out l)

-- a mark reads back equal
pub back : (d : Docket) → Sized d → well_formed d ≡ true → read_docket (encoded d) ≡ Ok d
back d s w = reads d (encoded d) (encoded d) s (sym (formed d w)) refl (length_encoded d s) refl

pub some_formed : (ms : List (Option Docket)) (a : ℕ) (m : Option Docket) → Marked ms → m ≡ get_or ms a None → IfSome m (λ d. well_formed d ≡ true)
some_formed ms a None own e = tt
some_formed ms a (Some d) own e = (mark_at 0 ms a d own.1 (sym e)).1

pub back_of :
    (m : Option Docket) (d : Docket) → m ≡ Some d → Sized d → IfSome m (λ e. well_formed e ≡ true)
    → IfSome m (λ e. read_docket (encoded e) ≡ Ok e)
back_of None d is s w = tt
back_of (Some e) d is s w = let q : d ≡ e = cc in back e (subst Sized q s) w

-- what is read is well formed
never_clear : (a b : Bool) → ◌≡◌ {A = Option ℕ} None (cond a (Some 4) (cond b (Some 5) (Some 6))) → ⊥
never_clear true b h = some_not_none 4 h
never_clear false true h = some_not_none 5 h
never_clear false false h = some_not_none 6 h

clear_of : (d : Docket) (clear : Bool) → None ≡ wrong_place d clear → None ≡ wrong_place d true
clear_of d true e = e
clear_of d false e = absurd (never_clear (nat_lt 63 d.account) _ e)

pub read_formed : (bs : List ℕ) (d : Docket) → read_docket bs ≡ Ok d → well_formed d ≡ true
read_formed bs d e = sym (ap (λ o. not (is_some o)) (clear_of d _ (read_says bs d e).fine))

pub account_read : (bs : List ℕ) (d : Docket) → read_docket bs ≡ Ok d → d.account ≤ 63
account_read bs d e = account_of_lem d (read_formed bs d e)
