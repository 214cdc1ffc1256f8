-- Every mark on a sheet is a well-formed docket of its account, as the sheet's law says: a law cites nothing of this crate's proofs/.
use Rattle.std.specs.Prelude.{◌≡◌, ℕ, Bool, true, false, cond, List, [], ◌∷◌, Some, None, Ok, Err, Option, Result, ◌==◌, refl}
use Rattle.std.proofs.Common.{◌⊎◌, inl, inr, sym, ap, ◌∙◌, arith}
use Rattle.std.specs.Option.{option_or}
use Rattle.std.proofs.lemmas.Bool.{eqb-true}
use Rattle.refusals.specs.Reading.{Reading}
use Rattle.docket.specs.declared.Docket.{Docket}
use Rattle.docket.specs.Layout.{read_docket}
use Rattle.marks.specs.Kept.{formed, account_of_lem, some_not_none}
use Rattle.marks.specs.Marks.{well_formed, MarkOf}
use Rattle.marks.proofs.Kept.{read_formed}
use Rattle.sheet.specs.Sheet.{fit, of_account, last_of, contents, mark_on}

or_cases : (x y : Option Docket) (d : Docket) → option_or x y ≡ Some d → (x ≡ Some d) ⊎ (y ≡ Some d)
or_cases None y d e = inr e
or_cases (Some z) y d e = inl e

if_some : (b : Bool) (e d : Docket) → cond b (Some e) None ≡ Some d → (b ≡ true) × (e ≡ d)
if_some true e d h = (refl, cc)
if_some false e d h = absurd (some_not_none d h)

of_is : (a : ℕ) (r : List ℕ) (x : Result Docket Reading) (d : Docket) → read_docket r ≡ x → of_account a x ≡ Some d → (well_formed d ≡ true) × (d.account ≡ a)
of_is a r (Err e) d is h = absurd (some_not_none d h)
of_is a r (Ok e) d is h =
    let p = if_some (e.account == a) e d h in
    let q : d.account ≡ e.account = ap (λ z. z.account) (sym p.1) in
    (read_formed r d (is ∙ ap Ok p.1), q ∙ eqb-true e.account a p.0)

last_is : (a : ℕ) (rs : List (List ℕ)) (d : Docket) → last_of a rs ≡ Some d → (well_formed d ≡ true) × (d.account ≡ a)
last_is a [] d e = absurd (some_not_none d e)
last_is a (r ∷ rs) d e =
    elim (or_cases (last_of a rs) (of_account a (read_docket r)) d e) [ inl h ↦ last_is a rs d h | inr h ↦ of_is a r (read_docket r) d refl h ]

pub on_is : (b : Bool) (a : ℕ) (rs : List (List ℕ)) (d : Docket) → cond b (last_of a rs) None ≡ Some d → (well_formed d ≡ true) × (d.account ≡ a)
on_is true a rs d e = last_is a rs d e
on_is false a rs d e = absurd (some_not_none d e)

pub mark_on_lem : (bs : List ℕ) (a : ℕ) (d : Docket) → mark_on bs a ≡ Some d → MarkOf a d
mark_on_lem bs a d e =
    let p = on_is (fit bs) a (contents bs) d e in
    let s = account_of_lem d p.0 in
    (formed d p.0, p.1, omega (arith, p.1))
