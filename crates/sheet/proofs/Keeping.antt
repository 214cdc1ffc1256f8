-- What is left when each record that has a later one of its account is dropped. Assumes nothing.
use Rattle.std.proofs.Common.{◌≡◌, ℕ, suc, ◌+◌, ◌-◌, ◌<◌, ◌≤◌, true, false, cond, List, [], ◌∷◌, ◌++◌, take, is_some, Some, None, Ok, Err, Option, Result, sym, refl, ap, ◌∙◌, inl, inr, arith}
use Rattle.std.specs.Option.{option_or}
use Rattle.std.proofs.lemmas.List.{append_assoc, append-nil}
use Rattle.std.proofs.lemmas.Bool.{ne_eqb, cases_eq, cases_Bool, false≢true, not-false}
use Rattle.refusals.specs.Reading.{Reading}
use Rattle.docket.specs.declared.Docket.{Docket}
use Rattle.docket.specs.Layout.{read_docket}
use Rattle.sheet.specs.Sheet.{record_at, records, of_account, last_of, stays_by, keep_last}
use Rattle.sheet.proofs.Places.{records_none, records_more, records_push, records_same, or_none}

-- a record that stays is moved behind those that did
pub keep_more :
    (i n kept : ℕ) (bs cs : List ℕ) (all : List (List ℕ)) → i < n → kept ≤ i
    → stays_by (read_docket (record_at i bs)) (records (i + 1) (n - (i + 1)) bs) ≡ true
    → records 0 kept bs ++ keep_last (records i (n - i) bs) ≡ all
    → record_at kept cs ≡ record_at i bs → ((k : ℕ) → (k ≡ kept → ⊥) → record_at k cs ≡ record_at k bs)
    → records 0 (kept + 1) cs ++ keep_last (records (i + 1) (n - (i + 1)) cs) ≡ all
keep_more i n kept bs cs all h below stay inv here others =
    let r = record_at i bs in
    let rest = records (i + 1) (n - (i + 1)) bs in
    let before : records 0 kept cs ≡ records 0 kept bs = records_same 0 kept bs cs (λ k l u. others k (λ e. omega arith)) in
    let after : records (i + 1) (n - (i + 1)) cs ≡ rest = records_same (i + 1) (n - (i + 1)) bs cs (λ k l u. others k (λ e. omega arith)) in
    let z : kept + 1 ≡ suc kept = omega arith in
    let w : 0 + kept ≡ kept = omega arith in
    let push : records 0 (kept + 1) cs ≡ records 0 kept bs ++ r ∷ [] =
    ap (λ k. records 0 k cs) z ∙ (records_push 0 kept cs ∙ (ap (λ k. records 0 kept cs ++ record_at k cs ∷ []) w
    ∙ (ap (λ x. records 0 kept cs ++ x ∷ []) here ∙ ap (λ rs. rs ++ r ∷ []) before))) in
    let kept-r : keep_last (records i (n - i) bs) ≡ r ∷ keep_last rest =
    ap keep_last (records_more i n bs h) ∙ ap (λ b. cond b (r ∷ keep_last rest) (keep_last rest)) stay in
    let a = append_assoc (records 0 kept bs) (r ∷ []) (keep_last rest) in
    cc

pub keep_less :
    (i n kept : ℕ) (bs : List ℕ) (all : List (List ℕ)) → i < n
    → stays_by (read_docket (record_at i bs)) (records (i + 1) (n - (i + 1)) bs) ≡ false
    → records 0 kept bs ++ keep_last (records i (n - i) bs) ≡ all
    → records 0 kept bs ++ keep_last (records (i + 1) (n - (i + 1)) bs) ≡ all
keep_less i n kept bs all h stay inv =
    let r = record_at i bs in
    let rest = records (i + 1) (n - (i + 1)) bs in
    let dropped : keep_last (records i (n - i) bs) ≡ keep_last rest =
    ap keep_last (records_more i n bs h) ∙ ap (λ b. cond b (r ∷ keep_last rest) (keep_last rest)) stay in
    cc

pub keep_all :
    (i n kept : ℕ) (bs : List ℕ) (all : List (List ℕ)) → n ≤ i → records 0 kept bs ++ keep_last (records i (n - i) bs) ≡ all → records 0 kept bs ≡ all
keep_all i n kept bs all h inv =
    sym (append-nil (records 0 kept bs)) ∙ (ap (λ rs. records 0 kept bs ++ keep_last rs) (sym (records_none i n bs h)) ∙ inv)

or_some : (x y : Option Docket) → is_some x ≡ true → option_or x y ≡ x
or_some None y h = absurd (false≢true h)
or_some (Some d) y h = refl

-- the last record of each account is kept
pub other_none : (a : ℕ) (rs : List (List ℕ)) (x : Result Docket Reading) → stays_by x rs ≡ false → option_or (last_of a rs) (of_account a x) ≡ last_of a rs
other_none a rs (Err e) h = or_none (last_of a rs)
other_none a rs (Ok d) h =
    elim (cases_eq d.account a) [
      | inl e ↦ or_some (last_of a rs) _ (ap (λ b. is_some (last_of b rs)) (sym e) ∙ not-false _ h)
      | inr ne ↦ let t = ne_eqb d.account a ne in ap (λ b. option_or (last_of a rs) (cond b (Some d) None)) t ∙ or_none (last_of a rs)
    ]

pub kept_last : (a : ℕ) (rs : List (List ℕ)) → last_of a (keep_last rs) ≡ last_of a rs
kept_last a [] = refl
kept_last a (r ∷ rs) =
    elim (cases_Bool (stays_by (read_docket r) rs)) [
      | inl t ↦
          ap (λ b. last_of a (cond b (r ∷ keep_last rs) (keep_last rs))) t
          ∙ ap (λ m. option_or m (of_account a (read_docket r))) (kept_last a rs)
      | inr f ↦
          ap (λ b. last_of a (cond b (r ∷ keep_last rs) (keep_last rs))) f
          ∙ (kept_last a rs ∙ sym (other_none a rs (read_docket r) f))
    ]

-- how far the loop has come: those kept lie before `place`, and the record at `i` is looked at next
abbrev pub Keeps : ℕ → List ℕ → List ℕ → ℕ → ℕ → Type 0
Keeps n was bs place i =
    (records 0 place bs ++ keep_last (records i (n - i) bs) ≡ keep_last (records 0 n was)) × (place ≤ i) × (take 16 bs ≡ take 16 was)

pub keeps_none : (n : ℕ) (bs : List ℕ) → Keeps n bs bs 0 0
unfolding records
keeps_none n bs = let z : n - 0 ≡ n = omega arith in (ap (λ k. keep_last (records 0 k bs)) z, omega arith, refl)

pub keeps_more :
    (n i place p : ℕ) (was bs cs ds : List ℕ) → Keeps n was bs place i → i < n → true ≡ stays_by (read_docket (record_at i bs)) (records (i + 1) (n - (i + 1)) bs)
    → record_at place cs ≡ record_at i bs → ((k : ℕ) → (k ≡ place → ⊥) → record_at k cs ≡ record_at k bs) → take 16 cs ≡ take 16 bs
    → ds ≡ cs → p ≡ place + 1 → Keeps n was ds p (i + 1)
keeps_more n i place p was bs cs ds inv h stay here others head e f =
    let m = keep_more i n place bs cs _ h inv.1 (sym stay) inv.0 here others in
    let r : records 0 p ds ++ keep_last (records (i + 1) (n - (i + 1)) ds) ≡ records 0 (place + 1) cs ++ keep_last (records (i + 1) (n - (i + 1)) cs) =
    ap (λ k. records 0 k ds ++ keep_last (records (i + 1) (n - (i + 1)) ds)) f ∙ ap (λ x. records 0 (place + 1) x ++ keep_last (records (i + 1) (n - (i + 1)) x)) e in
    let b : place ≤ i = inv.1 in
    (r ∙ m, omega arith, ap (take 16) e ∙ (head ∙ inv.2))

pub keeps_less :
    (n i place p : ℕ) (was bs ds : List ℕ) → Keeps n was bs place i → i < n → false ≡ stays_by (read_docket (record_at i bs)) (records (i + 1) (n - (i + 1)) bs)
    → ds ≡ bs → p ≡ place → Keeps n was ds p (i + 1)
keeps_less n i place p was bs ds inv h stay e f =
    let m = keep_less i n place bs _ h (sym stay) inv.0 in
    let r : records 0 p ds ++ keep_last (records (i + 1) (n - (i + 1)) ds) ≡ records 0 place bs ++ keep_last (records (i + 1) (n - (i + 1)) bs) =
    ap (λ k. records 0 k ds ++ keep_last (records (i + 1) (n - (i + 1)) ds)) f ∙ ap (λ x. records 0 place x ++ keep_last (records (i + 1) (n - (i + 1)) x)) e in
    let b : place ≤ i = inv.1 in
    (r ∙ m, omega arith, ap (take 16) e ∙ inv.2)
