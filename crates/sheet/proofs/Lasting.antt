-- What a sheet means after a write, and after a list of them. Assumes nothing.
use Rattle.std.proofs.Common.{◌≡◌, ℕ, ◌≤◌, Bool, true, false, cond, ◌&&◌, eqb, List, [], ◌∷◌, ◌++◌, length, take, IfSome, is_ok, Some, None, Ok, Err, Option, Result, sym, refl, ap, ◌∙◌, inl, inr, arith, MatchOption, MatchResult}
use Rattle.std.specs.Option.{option_or}
use Rattle.std.proofs.lemmas.Bool.{and_parts, and_from, and_left, eq-eqb, ne_eqb, cases_eq, cases_Bool, cond-true, cond-false, false≢true}
use Rattle.docket.specs.declared.Docket.{Docket}
use Rattle.layout.specs.Bytes.{blank}
use Rattle.docket.specs.Layout.{read_docket, encoded}
use Rattle.marks.specs.Outcomes.{rest_of_row}
use Rattle.marks.specs.Marks.{well_formed, write_answer, mark_after}
use Rattle.sheet.specs.Sheet.{count_of, end_of, fit, of_account, last_of, stays_by, keep_last, contents, with_room, owner_on, mark_on, row_on, head_clear, all_read, rest_clear, well_laid, SameHead, Wrote, Written, marks_after, lent, OpensSheet, Lasts, laid_out, IsMadeOf}
use Rattle.marks.specs.declared.fault.StoreFault.{StoreFault}
use Rattle.sheet.specs.declared.Parts.{Parts}
use Rattle.sheet.specs.declared.Sheet.{Sheet}
use Rattle.sheet.proofs.Found.{or_assoc}
use Rattle.sheet.proofs.Places.{or_none}
use Rattle.sheet.proofs.Keeping.{kept_last}
use Rattle.sheet.specs.Own.{on_is}
use Rattle.sheet.proofs.Heads.{fits, fits_from, head_taken}
use Rattle.std.proofs.lemmas.List.{take-take}

-- what is read on a sheet is well formed
pub on_formed : (bs : List ℕ) (a : ℕ) (m : Option Docket) → m ≡ mark_on bs a → IfSome m (λ d. well_formed d ≡ true)
on_formed bs a None e = tt
on_formed bs a (Some d) e = (on_is (fit bs) a (contents bs) d (sym e)).0

-- what is kept of records that are dockets, and one more
read_keep : (rs : List (List ℕ)) → all_read rs ≡ true → all_read (keep_last rs) ≡ true
read_keep [] h = refl
read_keep (r ∷ rs) h =
    let p = and_parts (is_ok (read_docket r)) (all_read rs) h in
    elim (cases_Bool (stays_by (read_docket r) rs)) [
      | inl t ↦ ap (λ b. all_read (cond b (r ∷ keep_last rs) (keep_last rs))) t ∙ and_from _ _ p.0 (read_keep rs p.1)
      | inr f ↦ ap (λ b. all_read (cond b (r ∷ keep_last rs) (keep_last rs))) f ∙ read_keep rs p.1
    ]

read_push : (rs : List (List ℕ)) (r : List ℕ) → all_read rs ≡ true → is_ok (read_docket r) ≡ true → all_read (rs ++ r ∷ []) ≡ true
read_push [] r h k = and_from _ _ k refl
read_push (x ∷ rs) r h k =
    let p = and_parts (is_ok (read_docket x)) (all_read rs) h in
    and_from _ _ p.0 (read_push rs r p.1 k)

read_cond : (b : Bool) (rs : List (List ℕ)) → all_read rs ≡ true → all_read (cond b rs (keep_last rs)) ≡ true
read_cond true rs h = h
read_cond false rs h = read_keep rs h

last_push : (a : ℕ) (rs : List (List ℕ)) (r : List ℕ) → last_of a (rs ++ r ∷ []) ≡ option_or (of_account a (read_docket r)) (last_of a rs)
last_push a [] r = sym (or_none (of_account a (read_docket r)))
last_push a (x ∷ rs) r =
    ap (λ m. option_or m (of_account a (read_docket x))) (last_push a rs r) ∙ or_assoc (of_account a (read_docket r)) (last_of a rs) (of_account a (read_docket x))

last_cond : (b : Bool) (a : ℕ) (rs : List (List ℕ)) → last_of a (cond b rs (keep_last rs)) ≡ last_of a rs
last_cond true a rs = refl
last_cond false a rs = kept_last a rs

-- a mark that is written: where it is the account's own, and where another's
now_last : (a : ℕ) (d : Docket) (b : Bool) (m : Option Docket) → b ≡ eqb d.account a → option_or (cond b (Some d) None) m ≡ cond (eqb a d.account) (Some d) m
now_last a d b m e =
    elim (cases_eq a d.account) [
      | inl q ↦
          let t = eq-eqb a d.account q in
          let u : b ≡ true = e ∙ eq-eqb d.account a (sym q) in
          cc
      | inr ne ↦
          let t = ne_eqb a d.account ne in
          let u : b ≡ false = e ∙ ne_eqb d.account a (λ z. ne (sym z)) in
          cc
    ]

row_of : (bs : List ℕ) → fit bs ≡ true → row_on bs ≡ []
row_of bs f = cond-true _ _ _ f

after_standing : (mark : ℕ → Option Docket) (d : Docket) (a : ℕ) → well_formed d ≡ true → cond (eqb a d.account) (Some d) (mark a) ≡ mark_after mark [] d a
after_standing mark d a w =
    elim (cases_Bool (eqb a d.account)) [
      | inl t ↦ ap (λ b. cond b (Some d) (mark a)) t ∙ sym (cond-true _ (Some d) (mark a) (and_from _ _ t (and_from _ _ w refl)))
      | inr f ↦ ap (λ b. cond b (Some d) (mark a)) f ∙ sym (cond-false _ (Some d) (mark a) (and_left _ _ f))
    ]

module _ (was room now' : List ℕ) (d : Docket) (w : well_formed d ≡ true) (f : fit was ≡ true) (same : length now' ≡ length was) (space : end_of (count_of now') ≤ length now')
    (back : read_docket (encoded d) ≡ Ok d) (rows : contents room ≡ with_room was) (more : contents now' ≡ contents room ++ encoded d ∷ []) where
  fit_now : fit now' ≡ true
  fit_now = let z = fits was f in fits_from now' (omega (arith, z.low)) (omega (arith, z.high)) space

  rows_now : contents now' ≡ with_room was ++ encoded d ∷ []
  rows_now = more ∙ ap (λ rs. rs ++ encoded d ∷ []) rows

  mark_now : (a : ℕ) → mark_on now' a ≡ cond (eqb a d.account) (Some d) (mark_on was a)
  mark_now a =
      cond-true _ (last_of a (contents now')) None fit_now
      ∙ (ap (last_of a) rows_now
      ∙ (last_push a (with_room was) (encoded d)
      ∙ (ap (λ x. option_or (of_account a x) (last_of a (with_room was))) back
      ∙ (now_last a d (eqb d.account a) (last_of a (with_room was)) refl
      ∙ ap (cond (eqb a d.account) (Some d)) (last_cond _ a (contents was) ∙ sym (cond-true _ (last_of a (contents was)) None f))))))

  laid_now : SameHead was now' → (rest_clear was ≡ true → rest_clear now' ≡ true) → well_laid was ≡ true → well_laid now' ≡ true
  laid_now head rest l =
      let p = and_parts (fit was) _ l in
      let q = and_parts (head_clear was) _ p.1 in
      let r = and_parts (all_read (contents was)) (rest_clear was) q.1 in
      and_from _ _ fit_now
      (and_from _ _ (head.1 ∙ q.0)
      (and_from _ _ (ap all_read rows_now ∙ read_push (with_room was) (encoded d) (read_cond _ (contents was) r.0) (ap is_ok back)) (rest r.1)))

  pub wrote : SameHead was now' → (rest_clear was ≡ true → rest_clear now' ≡ true) → Wrote was d now'
  wrote head rest =
      record {
        same = λ no'. absurd (false≢true (sym no' ∙ and_from _ _ w f));
        size = same;
        rows = rows_now ∙ sym (cond-true _ (with_room was ++ encoded d ∷ []) (contents was) (and_from _ _ w f));
        owner = head.0;
        row = row_of now' fit_now ∙ sym (cond-true _ _ _ w ∙ ap rest_of_row (row_of was f));
        marks = λ a. mark_now a ∙ (after_standing (mark_on was) d a w ∙ ap (λ row. mark_after (mark_on was) row d a) (sym (row_of was f)));
        laid = laid_now head rest;
      }

-- after any list of writes
marks_same : (f g : ℕ → Option Docket) (ds : List Docket) → ((a : ℕ) → f a ≡ g a) → (a : ℕ) → marks_after f ds a ≡ marks_after g ds a
marks_same f g [] h a = h a
marks_same f g (d ∷ ds) h a = marks_same (mark_after f [] d) (mark_after g [] d) ds (λ b. ap (λ m. cond (eqb b d.account && (well_formed d && true)) (Some d) m) (h b)) a

run : (bs : List ℕ) → well_laid bs ≡ true → (ds : List Docket) (cs : List ℕ) → Written bs ds cs → (well_laid cs ≡ true) × (owner_on cs ≡ owner_on bs) × ((a : ℕ) → mark_on cs a ≡ marks_after (mark_on bs) ds a)
run bs w [] cs e = (ap well_laid e ∙ w, ap owner_on e, λ a. ap (λ x. mark_on x a) e)
run bs w (d ∷ ds) cs (mid, one) =
    let r = run mid (one.0.laid w) ds cs one.1 in
    let f = (and_parts (fit bs) _ w).0 in (
      r.0,
      r.1 ∙ one.0.owner,
      λ a. r.2 a
          ∙ marks_same (mark_on mid) (mark_after (mark_on bs) [] d) ds (λ b. one.0.marks b ∙ ap (λ row. mark_after (mark_on bs) row d b) (row_of bs f)) a,
    )

module _ (cs : List ℕ) (owner : ℕ) (marks : ℕ → Option Docket) (laid : well_laid cs ≡ true) (o : owner_on cs ≡ owner) (m : (a : ℕ) → mark_on cs a ≡ marks a) where
  opened_again : (again : Result Sheet StoreFault) → OpensSheet cs again → MatchResult again (λ sheet. (owner_on (lent sheet) ≡ owner) × ((a : ℕ) → mark_on (lent sheet) a ≡ marks a)) (λ _. ⊥)
  opened_again (Ok sheet) h = (ap owner_on h.1 ∙ o, λ a. ap (λ x. mark_on x a) h.1 ∙ m a)
  opened_again (Err fault) h = absurd (false≢true (sym h.0 ∙ laid))

and_true : (b : Bool) → (b && true) ≡ b
and_true true = refl
and_true false = refl

pub lasts : (bs : List ℕ) → Lasts bs
lasts bs w ds cs e =
    let r = run bs w ds cs e in
    let row = row_of cs (and_parts (fit cs) _ r.0).0 in
    record {
      laid = r.0;
      row = row;
      next = λ d. ap (λ x. write_answer x d) row ∙ and_true (well_formed d);
      opened = opened_again cs (owner_on bs) (marks_after (mark_on bs) ds) r.0 r.1 r.2;
    }

-- what is asked of the parts of bytes tells whether the bytes are well laid
module _ (bs : List ℕ) (r : Bool) (P : Parts → Type 0) (laid : (p : Parts) → P p → r ≡ laid_out p) where
  pub laid_is : (o : Option Parts) → MatchOption o (fit bs ≡ false) (IsMadeOf bs) → MatchOption o (r ≡ false) P → r ≡ well_laid bs
  laid_is None f e = e ∙ sym (and_left _ _ f)
  laid_is (Some p) m e =
      let head : head_clear p.head.now ≡ head_clear bs = ap head_clear m.head ∙ (head_taken bs (take 16 bs) (take-take 16 16 bs (omega arith))).1 in
      let rows : all_read p.records.now ≡ all_read (contents bs) = ap all_read m.rows in
      let rest : blank p.rest.now ≡ rest_clear bs = ap blank m.rest in
      let f : fit bs ≡ true = m.fits in
      let q = laid p e in
      let z : well_laid bs ≡ (head_clear bs && (all_read (contents bs) && rest_clear bs)) = ap (λ b. b && (head_clear bs && (all_read (contents bs) && rest_clear bs))) f in
      cc
