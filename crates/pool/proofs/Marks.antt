-- Marks only ever rise: a mark gives way to one of a greater number alone. Assumes nothing.
use Rattle.std.proofs.Common.{◌≡◌, ℕ, ◌<◌, Bool, true, false, cond, not, ◌&&◌, eqb, ltb, ◌⊎◌, List, Some, None, Ok, Err, Option, Result, sym, refl, ap, ◌∙◌, subst, inl, inr, ⊎_elim, arith}
use Rattle.std.proofs.lemmas.Option.{same_Some}
use Rattle.std.specs.Str.{bytes_eq}
use Rattle.std.proofs.lemmas.Bool.Decides.{nat_tests}
use Rattle.std.proofs.lemmas.Bool.{ltb-true, eqb-true}
use Rattle.refusals.specs.Reading.{Reading, found}
use Rattle.refusals.specs.declared.Layer.TheVariants as layer
use Rattle.refusals.specs.declared.Cause.TheVariants as cause
use Rattle.refusals.proofs.Steps.{ok_then, ok_unless, ok_within}
use Rattle.docket.specs.declared.Docket.{Docket}
use Rattle.docket.specs.Layout.{encoded, read_docket}
use Rattle.marks.specs.Marks.{well_formed, mark_after}
use Rattle.marks.specs.Outcomes.{End, lands, next_outcome}
use Rattle.settling.specs.Window.{account_of}
use Rattle.settlement.specs.Box.{BoxState}
use Rattle.settling.specs.Settle.{uncovered}
use Rattle.settlement.specs.Examine.{judged_docket, examined}
use Rattle.pool.specs.Ready.{StoreState, written, Finding, refuses, marked, by_cover, by_mark, by_store, by_examined, finding, store_after}
use Rattle.pool.proofs.Again.{read_again, ok_same}

-- an account's mark, if it has one, has a lower number than the docket
abbrev pub Above : Option Docket → Docket → Type 0
Above None d = Unit {0}
Above (Some m) d = m.number < d.number

-- a docket that countersign writes down
pub record Fresh (s : StoreState) (d : Docket) : Type 0 where
  pub again : read_docket (encoded d) ≡ Ok d
  pub above : Above (s.mark d.account) d

-- past four tests
past_four :
    (p q r t : Bool) (e1 e2 e3 e4 : Reading) (x y : Docket) → cond p (Err e1) (cond q (Err e2) (cond r (Err e3) (cond t (Err e4) (Ok x)))) ≡ Ok y
    → (p ≡ false) × (x ≡ y)
past_four p q r t e1 e2 e3 e4 x y h =
    let a = ok_unless p e1 _ y h in
    let b = ok_unless q e2 _ y a.1 in
    let c = ok_unless r e3 _ y b.1 in
    let d = ok_unless t e4 _ y c.1 in
    (a.0, ok_same x y d.1)

pub not_false_eq : (m n : ℕ) → not (eqb m n) ≡ false → m ≡ n
not_false_eq m n h = grind (arith, nat_tests)

judged_pool : {State : Type 0} (good : ℕ → List ℕ → List ℕ → Bool) (b : BoxState State) (bs seal : List ℕ) (d e : Docket) → judged_docket good b bs seal d ≡ Ok e → (d.pool ≡ b.pool) × (d ≡ e)
judged_pool good b bs seal d e h =
    let due = (account_of b.accounts d.account).next in
    let p = past_four (not (eqb d.pool b.pool)) (not (good d.account bs seal)) (ltb d.number due) (ltb due d.number) (found layer.Box cause.AnotherPool 0) (found layer.Box cause.YardSeal 0) (found layer.Box cause.BelowNext 0) (found layer.Box cause.AboveNext 0) d e h in
    (not_false_eq _ _ p.0, p.1)

examined_again : {State : Type 0} (good : ℕ → List ℕ → List ℕ → Bool) (b : BoxState State) (bs seal : List ℕ) (d : Docket) → b.pool < 4294967296 → examined good b bs seal ≡ Ok d → read_docket (encoded d) ≡ Ok d
unfolding examined
examined_again good b bs seal d small h =
    let r = ok_then _ _ d h in
    let j = judged_pool good b bs seal r.0 d r.2 in
    subst (λ x. read_docket (encoded x) ≡ Ok x) j.1 (read_again bs r.0 (ok_within _ _ _ r.0 r.1) (subst (λ n. n < 4294967296) (sym j.0) small))

-- What holds of a store, and of it with any docket written that countersign writes, holds of the store that countersign leaves.
module _
    {State : Type 0} (valid : State → ℕ → List ℕ → Bool) (next : State → ℕ → List ℕ → State) (good : ℕ → List ℕ → List ℕ → Bool)
    (b : BoxState State) (s : StoreState) (small : b.pool < 4294967296)
    (P : StoreState → Type 0) (same : P s) (wrote : (d : Docket) → Fresh s d → P (written s d))
  where
    by_cover_lem : (d : Docket) (o : Option ℕ) → Fresh s d → P (store_after s (by_cover d o))
    by_cover_lem d None f = wrote d f
    by_cover_lem d (Some place) f = same

    by_same_lem : (d : Docket) (t : Bool) → P (store_after s (cond t (marked d) (refuses (found layer.Box cause.OtherMarked 0))))
    by_same_lem d true = same
    by_same_lem d false = same

    by_numbers :
        (d m : Docket) (lower higher same_bytes : Bool) (o : Option ℕ) → read_docket (encoded d) ≡ Ok d → s.mark d.account ≡ Some m → ltb m.number d.number ≡ higher
        → P (store_after s (cond lower (refuses (found layer.Box cause.OtherMarked 0)) (cond higher (by_cover d o) (cond same_bytes (marked d) (refuses (found layer.Box cause.OtherMarked 0))))))
    by_numbers d m true higher t o again e h = same
    by_numbers d m false true t o again e h = by_cover_lem d o (record { again = again; above = subst (λ x. Above x d) (sym e) (ltb-true _ _ h) })
    by_numbers d m false false t o again e h = by_same_lem d t

    by_mark_lem : (d : Docket) (o : Option ℕ) (mark : Option Docket) → read_docket (encoded d) ≡ Ok d → s.mark d.account ≡ mark → P (store_after s (by_mark d (by_cover d o) mark))
    by_mark_lem d o None again e = by_cover_lem d o (record { again = again; above = subst (λ x. Above x d) (sym e) tt })
    by_mark_lem d o (Some m) again e = by_numbers d m (ltb d.number m.number) (ltb m.number d.number) (bytes_eq (encoded m) (encoded d)) o again e refl

    by_owner : (d : Docket) (other : Bool) (f : Finding) → P (store_after s f) → P (store_after s (cond other (refuses (found layer.Box cause.OtherOwner 0)) f))
    by_owner d true f p = same
    by_owner d false f p = p

    by_examined_lem : (r : Result Docket Reading) → ((d : Docket) → r ≡ Ok d → read_docket (encoded d) ≡ Ok d) → P (store_after s (by_examined r (by_store valid next b s)))
    by_examined_lem (Ok d) again = by_owner d (not (eqb s.owner b.number)) _ (by_mark_lem d (uncovered valid next b.current d) (s.mark d.account) (again d refl) refl)
    by_examined_lem (Err r) again = same

    pub countersign_leaves : (bs seal : List ℕ) → P (store_after s (finding valid next good b s bs seal))
    unfolding finding
    countersign_leaves bs seal = by_examined_lem (examined good b bs seal) (λ d h. examined_again good b bs seal d small h)

-- every mark reads again, and is its account's
abbrev pub OwnAndRead : StoreState → Type 0
OwnAndRead s = (a : ℕ) (d : Docket) → s.mark a ≡ Some d → (read_docket (encoded d) ≡ Ok d) × (d.account ≡ a)

-- a docket that is its account's mark, or was: the mark has a greater number then
pub record Behind (s : StoreState) (d : Docket) : Type 0 where
  pub mark : Docket
  pub is : s.mark d.account ≡ Some mark
  pub passed : (d ≡ mark) ⊎ (d.number < mark.number)

mark_then : (mark : ℕ → Option Docket) (row : List End) (d : Docket) (a : ℕ) → (mark_after mark row d a ≡ mark a) ⊎ ((a ≡ d.account) × (mark_after mark row d a ≡ Some d))
mark_then mark row d a = case (eqb a d.account) (well_formed d && lands (next_outcome row)) refl where
  case : (t u : Bool) → eqb a d.account ≡ t → (cond (t && u) (Some d) (mark a) ≡ mark a) ⊎ ((a ≡ d.account) × (cond (t && u) (Some d) (mark a) ≡ Some d))
  case true true e = inr (eqb-true _ _ e, refl)
  case true false e = inl refl
  case false u e = inl refl

pub own_written : (s : StoreState) (d : Docket) → OwnAndRead s → Fresh s d → OwnAndRead (written s d)
own_written s d own f a e h = case (mark_then s.mark s.row d a) where
  case : (mark_after s.mark s.row d a ≡ s.mark a) ⊎ ((a ≡ d.account) × (mark_after s.mark s.row d a ≡ Some d)) → (read_docket (encoded e) ≡ Ok e) × (e.account ≡ a)
  case (inl q) = own a e (sym q ∙ h)
  case (inr q) =
      let same = same_Some d e (sym q.1 ∙ h) in
      (subst (λ x. read_docket (encoded x) ≡ Ok x) same f.again, ap (λ (x : Docket). x.account) (sym same) ∙ sym q.0)

passed_again : (x m d : Docket) (mark : Option Docket) → mark ≡ Some m → Above mark d → (x ≡ m) ⊎ (x.number < m.number) → x.number < d.number
passed_again x m d mark e above p =
    let low : m.number < d.number = subst (λ o. Above o d) e above in
    ⊎_elim (λ same. let n = ap (λ (y : Docket). y.number) same in omega arith) (λ less. omega arith) p

pub behind_written : (s : StoreState) (d x : Docket) → Fresh s d → Behind s x → Behind (written s d) x
behind_written s d x f b = case (mark_then s.mark s.row d x.account) where
  case : (mark_after s.mark s.row d x.account ≡ s.mark x.account) ⊎ ((x.account ≡ d.account) × (mark_after s.mark s.row d x.account ≡ Some d)) → Behind (written s d) x
  case (inl q) = record { mark = b.mark; is = q ∙ b.is; passed = b.passed }
  case (inr q) = record {
    mark = d;
    is = q.1;
    passed = inr (passed_again x b.mark d (s.mark d.account) (ap s.mark (sym q.0) ∙ b.is) f.above b.passed);
  }
