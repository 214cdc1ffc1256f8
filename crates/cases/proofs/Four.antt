-- In the pool of four, seals hold. Assumes nothing.
use Rattle.std.proofs.Common.{◌≡◌, ℕ, zero, suc, ◌+◌, ◌<◌, Bool, true, false, cond, not, eqb, ltb, List, [], ◌∷◌, length, Some, Ok, Result, sym, refl, ap, ◌∙◌, subst, inl, inr, ⊎_elim, arith}
use Rattle.std.specs.Str.{bytes_eq}
use Rattle.std.proofs.lemmas.Bool.{or_cases, false≢true}
use Rattle.std.proofs.lemmas.Slice.Eq.{bytes_eq-Decides}
use Rattle.refusals.specs.Reading.{Reading, found}
use Rattle.refusals.specs.declared.Layer.TheVariants as layer
use Rattle.refusals.specs.declared.Cause.TheVariants as cause
use Rattle.refusals.proofs.Steps.{never, ok_then, ok_unless, ok_within}
use Rattle.docket.specs.declared.Docket.{Docket}
use Rattle.docket.specs.Layout.{encoded}
use Rattle.certificate.specs.declared.table.Entry.{Entry}
use Rattle.certificate.specs.Contents.{Contents}
use Rattle.certificate.specs.Layout.{read_certificate}
use Rattle.book.specs.Pallets.{pallet_valid, pallet_next}
use Rattle.seals.specs.Texts.{box_party, countersign_text}
use Rattle.settlement.specs.Accept.{first_bad, seal_of, sealed, unless_bad, judged_contents, accepted}
use Rattle.workbench.specs.Bench.{opening_balances}
use Rattle.pool.specs.Promise.{Among, SealsHold}
use Rattle.cases.specs.Four.{texts_of, is_one, good_in_four, four, at_end}

is_among : (text : List ℕ) (texts : List (List ℕ)) → is_one text texts ≡ true → Among text texts
is_among text [] h = absurd (false≢true h)
is_among text (t ∷ ts) h = ⊎_elim (λ s. inl ((bytes_eq-Decides text t).0 s)) (λ s. inr (is_among text ts s)) (or_cases (bytes_eq text t) (is_one text ts) h)

-- every seal of an accepted certificate is good
entry_sealed : (good : ℕ → List ℕ → List ℕ → Bool) (bs : List ℕ) (d x y : Docket) (at : ℕ) (es : List Entry) (e : Entry) → unless_bad x (first_bad good bs d at es) ≡ Ok y → Among e es → sealed good bs d e ≡ true
entry_sealed good bs d x y at [] e h i = absurd i
entry_sealed good bs d x y at (f ∷ es) e h i = case (sealed good bs d f) refl h (λ k j. entry_sealed good bs d x y (at + 8) es e k j) i where
  case :
      (t : Bool) → sealed good bs d f ≡ t → unless_bad x (cond t (first_bad good bs d (at + 8) es) (Some at)) ≡ Ok y
      → (unless_bad x (first_bad good bs d (at + 8) es) ≡ Ok y → Among e es → sealed good bs d e ≡ true) → Among e (f ∷ es) → sealed good bs d e ≡ true
  case true s k rest (inl same) = ap (sealed good bs d) same ∙ s
  case true s k rest (inr j) = rest k j
  case false s k rest j = absurd (never _ y k)

all_sealed :
    (good : ℕ → List ℕ → List ℕ → Bool) (pool count needed : ℕ) (bs : List ℕ) (k : Contents) (d : Docket) (e : Entry) → read_certificate count bs ≡ Ok k
    → accepted good pool count needed bs ≡ Ok d → Among e k.entries → sealed good bs k.docket e ≡ true
unfolding accepted
all_sealed good pool count needed bs k d e read accepts i =
    let r = ok_then _ _ d accepts in
    let same : r.0 ≡ k = ok_contents (sym (ok_within _ _ _ r.0 r.1) ∙ read) in
    let j : judged_contents good pool needed bs k ≡ Ok d = subst (λ x. judged_contents good pool needed bs x ≡ Ok d) same r.2 in
    let p = ok_unless (not (eqb k.docket.pool pool)) (found layer.Box cause.AnotherPool 0) _ d j in
    let q = ok_unless (ltb (length k.entries) needed) (found layer.Box cause.TooFewEntries 0) _ d p.1 in
    entry_sealed good bs k.docket k.docket d 4 k.entries e q.1 i
  where
    ok_contents : {x : Contents} → ◌≡◌ {A = Result Contents Reading} (Ok x) (Ok k) → x ≡ k
    ok_contents h = cc

-- the texts that boxes 0 to 2 seal
sealed_text : (number : ℕ) (text seal : List ℕ) → number < 4 → (number ≡ 3 → ⊥) → good_in_four (box_party number) text seal ≡ true → Among text (texts_of number)
sealed_text zero text seal below sound h = is_among text (texts_of 0) h
sealed_text (suc zero) text seal below sound h = is_among text (texts_of 1) h
sealed_text (suc (suc zero)) text seal below sound h = is_among text (texts_of 2) h
sealed_text (suc (suc (suc n))) text seal below sound h = absurd (sound (omega arith))

pub seals_hold : ((number : ℕ) → number < 4 → (number ≡ 3 → ⊥) → (at_end number).released ≡ texts_of number) → SealsHold pallet_valid pallet_next opening_balances four
seals_hold released bs k read accepts e i faithful =
    let number = e.signer.number in
    let below = faithful.0 in
    let sound : number ≡ 3 → ⊥ = λ s. faithful.1 (inl s) in
    let text = sealed_text number (countersign_text number (encoded k.docket)) (seal_of bs e) (omega arith) sound (all_sealed good_in_four 7 4 3 bs k k.docket e read accepts i) in
    subst (Among (countersign_text number (encoded k.docket))) (sym (released number (omega arith) sound)) text

-- by the number of a box
pub by_number : (P : ℕ → Type 0) → P 0 → P 1 → P 2 → (number : ℕ) → number < 4 → (number ≡ 3 → ⊥) → P number
by_number P p q r zero below sound = p
by_number P p q r (suc zero) below sound = q
by_number P p q r (suc (suc zero)) below sound = r
by_number P p q r (suc (suc (suc n))) below sound = absurd (sound (omega arith))
