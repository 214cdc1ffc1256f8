-- Reports that compare as equal are equal. Assumes nothing.
use Rattle.std.proofs.Common.{◌≡◌, ℕ, ◌<◌, ◌&&◌, true, false, eqb, Bool, List, Some, None, Option, Decides, length, get_or, refl, sym, ap, ◌∙◌, arith}
use Rattle.std.specs.Bool.{MatchBool, then_some}
use Rattle.std.specs.List.{AllWithin, HoldsAt}
use Rattle.std.proofs.lemmas.List.Elements.{AllWithin-from_all, All-from_all_within}
use Rattle.accident.specs.Story.{Agreed}
use Rattle.std.specs.Option.{option_eq}
use Rattle.std.specs.Cmp.Lexicographic.{pointwise}
use Rattle.std.proofs.lemmas.Bool.{false≢true}
use Rattle.std.proofs.lemmas.Bool.Decides.{Decides-eqb, Decides-and, Decides-like}
use Rattle.std.proofs.lemmas.Slice.Eq.{slice_eq-Decides}
use Rattle.accident.specs.declared.boxes.Report.{Report}

amount_decides : (x y : Option ℕ) → Decides (option_eq eqb x y) (x ≡ y)
amount_decides None None = (λ h. refl, λ h. refl)
amount_decides None (Some n) = (λ h. absurd (false≢true h), λ h. cc)
amount_decides (Some m) None = (λ h. absurd (false≢true h), λ h. cc)
amount_decides (Some m) (Some n) = (λ h. ap Some ((Decides-eqb m n).0 h), λ h. let e : m ≡ n = cc in (Decides-eqb m n).1 e)

-- what `==` answers
abbrev pub same : Report → Report → Bool
same p q = pointwise (option_eq eqb) p.balances q.balances && option_eq eqb p.next q.next

pub report_decides : (p q : Report) → Decides (same p q) (p ≡ q)
report_decides p q =
    Decides-like (same p q) (λ h i. record { balances = h.0 i; next = h.1 i }) (λ e. (ap (λ r. r.balances) e, ap (λ r. r.next) e))
    (Decides-and _ _ (slice_eq-Decides amount_decides p.balances q.balances _ refl) (amount_decides p.next q.next))

-- four reports, each of which is the first or not
pub agreed_by :
    (are : Bool) (reports : List Report) (d : Report) → length reports ≡ 4
    → MatchBool are (AllWithin (λ r. r ≡ get_or reports 0 d) reports 0 (length reports)) ((k : ℕ) × (k < length reports) × HoldsAt (λ r. r ≡ get_or reports 0 d → ⊥) reports k)
    → Agreed reports (then_some are (get_or reports 0 d))
agreed_by true reports d n h = All-from_all_within (λ r. r ≡ get_or reports 0 d) reports h
agreed_by false reports d n h = λ t all.
    let each = AllWithin-from_all (λ r. r ≡ t) reports all in
    absurd (h.2 d (each h.0 d (omega arith) h.1 ∙ sym (each 0 d (omega arith) (omega arith))))
