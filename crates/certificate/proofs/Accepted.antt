-- What an accepted certificate is. Assumes nothing.
use Rattle.std.proofs.Common.{◌≡◌, ℕ, zero, suc, ◌+◌, ◌*◌, ◌<◌, ◌≤◌, Bool, true, false, cond, List, [], ◌∷◌, ◌++◌, length, get_or, take, Some, None, Ok, Err, Option, Result, sym, refl, ap, ◌∙◌, subst, arith}
use Rattle.std.specs.List.{between}
use Rattle.std.proofs.lemmas.Bool.{or_parts, not-false, ltb-false, leb-false, eqb-true, eqb-false}
use Rattle.refusals.specs.Reading.{Reading}
use Rattle.refusals.proofs.Steps.{never, ok_then, ok_unless, ok_if, ok_within}
use Rattle.docket.specs.Layout.{read_docket}
use Rattle.certificate.specs.Contents.{Contents}
use Rattle.certificate.specs.Table.{entry_of, wrong_field, unless_wrong, read_row, behind, read_rows, seals_end, Rising}
use Rattle.certificate.specs.Layout.{read_count, read_head, read_certificate, Accepted}
use Rattle.certificate.proofs.Parts.{between_take}
use Rattle.certificate.specs.declared.table.Entry.{Entry}

-- an entry that was accepted, and its eight bytes
pub record Good (boxes least place : ℕ) (row : List ℕ) (e : Entry) : Type 0 where
  pub is : e ≡ entry_of row
  pub after : least ≤ e.signer.number
  pub below : e.signer.number < boxes
  pub blank : get_or row 1 0 ≡ 0
  pub starts : e.place ≡ place

none_unless : (b : Bool) (n : ℕ) (o : Option ℕ) → cond b (Some n) o ≡ None → (b ≡ false) × (o ≡ None)
none_unless true n o h = absurd (let z : ◌≡◌ {A = ℕ} 0 1 = cc in omega arith)
none_unless false n o h = (refl, h)

unless_none : (at : ℕ) (x e : Entry) (o : Option ℕ) → unless_wrong at x o ≡ Ok e → (e ≡ x) × (o ≡ None)
unless_none at x e None h = (cc, refl)
unless_none at x e (Some place) h = absurd (never _ e h)

fine : (boxes least place reserved : ℕ) (row : List ℕ) (e : Entry) → e ≡ entry_of row → reserved ≡ get_or row 1 0 → wrong_field boxes least place reserved e ≡ None → Good boxes least place row e
fine boxes least place reserved row e i z h =
    let n = none_unless _ _ _ h in
    let r = none_unless _ _ _ n.1 in
    let s = none_unless _ _ _ r.1 in
    let p = none_unless _ _ _ s.1 in
    let m = or_parts _ _ n.0 in
    record {
      is = i;
      after = ltb-false _ _ m.0;
      below = leb-false _ _ m.1;
      blank = sym z ∙ eqb-true _ _ (not-false _ r.0);
      starts = eqb-true _ _ (not-false _ p.0);
    }

row_good : (boxes at least place : ℕ) (row : List ℕ) (e : Entry) → read_row boxes at least place row ≡ Ok e → Good boxes least place row e
row_good boxes at least place row e h =
    let u = unless_none at (entry_of row) e (wrong_field boxes least place (get_or row 1 0) (entry_of row)) h in
    fine boxes least place (get_or row 1 0) row e u.0 refl (ap (wrong_field boxes least place (get_or row 1 0)) u.0 ∙ u.1)

-- the entries of a table from `at` on, each good
abbrev pub AllGood : ℕ → ℕ → ℕ → ℕ → List ℕ → List Entry → Type 0
AllGood boxes at least place head [] = Unit {0}
AllGood boxes at least place head (e ∷ es) =
    Good boxes least place (between at (at + 8) head) e × AllGood boxes (at + 8) (e.signer.number + 1) (place + e.signer.size) head es

behind_ok : (xs es : List Entry) (r : Result (List Entry) Reading) → behind xs r ≡ Ok es → (more : List Entry) × (r ≡ Ok more) × (xs ++ more ≡ es)
behind_ok xs es (Ok more) h = (more, refl, cc)
behind_ok xs es (Err f) h = absurd (never f es h)

pub table_good :
    (boxes m at least place : ℕ) (head : List ℕ) (es : List Entry) → read_rows boxes m at least place head ≡ Ok es
    → (length es ≡ m) × AllGood boxes at least place head es
table_good boxes zero at least place head es h =
    let n : [] ≡ es = cc in
    subst (λ xs. (length xs ≡ zero) × AllGood boxes at least place head xs) n (refl, tt)
table_good boxes (suc m) at least place head es h =
    let a = ok_then _ _ es h in
    let b = behind_ok (a.0 ∷ []) es _ a.2 in
    let i = table_good boxes m (at + 8) (a.0.signer.number + 1) (place + a.0.signer.size) head b.0 b.1 in
    subst (λ xs. (length xs ≡ suc m) × AllGood boxes at least place head xs) b.2 (ap suc i.0, (row_good boxes at least place _ a.0 a.1, i.1))

rising : (boxes at least place : ℕ) (head : List ℕ) (es : List Entry) → AllGood boxes at least place head es → Rising boxes least es
rising boxes at least place head [] g = tt
rising boxes at least place head (e ∷ es) g = (g.0.after, g.0.below, rising boxes (at + 8) _ _ head es g.1)

-- the first four bytes, of a certificate of `total` bytes
pub record Counted (total m : ℕ) (head : List ℕ) : Type 0 where
  pub some : 1 ≤ m
  pub most : m ≤ 13
  pub blank1 : get_or head 1 0 ≡ 0
  pub blank2 : get_or head 2 0 ≡ 0
  pub blank3 : get_or head 3 0 ≡ 0
  pub whole : 84 + 8 * m ≤ total

one_up : (m : ℕ) → (m ≡ 0 → ⊥) → 1 ≤ m
one_up m h = omega arith

counted : (total m n : ℕ) (head : List ℕ) → read_count total m head ≡ Ok n → Counted total m head
counted total m n head h =
    let a = ok_unless _ _ _ n h in
    let b = ok_unless _ _ _ n a.1 in
    let c = ok_unless _ _ _ n b.1 in
    let d = ok_unless _ _ _ n c.1 in
    let m0 = or_parts _ _ b.0 in
    let z = or_parts _ _ c.0 in
    let zs = or_parts _ _ z.1 in
    record {
      some = one_up m (eqb-false m 0 m0.0);
      most = ltb-false _ _ m0.1;
      blank1 = eqb-true _ _ (not-false _ z.0);
      blank2 = eqb-true _ _ (not-false _ zs.0);
      blank3 = eqb-true _ _ (not-false _ zs.1);
      whole = ltb-false _ _ d.0;
    }

-- a head that was accepted, with m as its count
pub record AcceptedHead (boxes total m : ℕ) (head : List ℕ) (k : Contents) : Type 0 where
  pub count : Counted total m head
  pub number : length k.entries ≡ m
  pub entries : AllGood boxes 4 0 (84 + 8 * m) head k.entries
  pub docket : read_docket (between (4 + 8 * m) (4 + 8 * m + 80) head) ≡ Ok k.docket
  pub ends : total ≡ seals_end (84 + 8 * m) k.entries

pub accepted_head : (boxes total m : ℕ) (head : List ℕ) (k : Contents) → read_head boxes total m head ≡ Ok k → AcceptedHead boxes total m head k
unfolding read_head
accepted_head boxes total m head k h =
    let a = ok_then _ _ k h in
    let b = ok_then _ _ k a.2 in
    let c = ok_then _ _ k b.2 in
    let e = ok_if _ _ _ k c.2 in
    let t = table_good boxes m 4 0 (84 + 8 * m) head b.0 b.1 in
    let i : record { docket = c.0; entries = b.0 } ≡ k = cc in
    subst (AcceptedHead boxes total m head) i (record {
      count = counted total m a.0 head a.1;
      number = t.0;
      entries = t.1;
      docket = ok_within _ _ _ c.0 c.1;
      ends = eqb-true _ _ e.0;
    })

-- byte 0 counts the entries
pub whole_head :
    (boxes : ℕ) (bs : List ℕ) (k : Contents) → read_certificate boxes bs ≡ Ok k
    → AcceptedHead boxes (length bs) (get_or bs 0 0) (take (84 + 8 * get_or bs 0 0) bs) k
unfolding read_certificate
whole_head boxes bs k h = accepted_head boxes (length bs) (get_or bs 0 0) (take (84 + 8 * get_or bs 0 0) bs) k h

pub accepted : (boxes : ℕ) (bs : List ℕ) (k : Contents) → read_certificate boxes bs ≡ Ok k → Accepted boxes bs k
accepted boxes bs k h =
    let a = whole_head boxes bs k h in
    let m : ℕ = get_or bs 0 0 in
    let n : length k.entries ≡ get_or bs 0 0 = a.number in
    let e : 4 + 8 * get_or bs 0 0 + 80 ≡ 84 + 8 * get_or bs 0 0 = omega arith in
    record {
      some = omega (arith, a.count.some);
      most = omega (arith, a.count.most);
      rising = rising boxes 4 0 (84 + 8 * m) _ k.entries a.entries;
      docket = rw n (sym (ap read_docket (ap (λ j. between (4 + 8 * m) j (take (84 + 8 * m) bs)) e ∙ between_take bs (4 + 8 * m) (84 + 8 * m))) ∙ a.docket);
      ends = rw n a.ends;
    }
