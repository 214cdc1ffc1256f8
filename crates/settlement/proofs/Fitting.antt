-- A docket that a box takes fits: its certificate was well formed, and its cell is free. Assumes nothing.
use Rattle.std.proofs.Common.{◌≡◌, ℕ, ◌+◌, ◌≤◌, Bool, true, false, not, eqb, ltb, List, length, is_some, Some, None, Ok, Option, refl, ap, subst, arith}
use Rattle.std.proofs.lemmas.Bool.{and_from, le-leb, ltb-false}
use Rattle.std.proofs.lemmas.Bool.Decides.{nat_tests}
use Rattle.refusals.proofs.Steps.{never, ok_then, ok_unless, ok_within}
use Rattle.docket.specs.declared.Docket.{Docket}
use Rattle.docket.specs.Layout.{wrong_place}
use Rattle.docket.proofs.RoundTrip.{read_says}
use Rattle.certificate.specs.Contents.{Contents}
use Rattle.certificate.proofs.Accepted.{accepted as read-accepted}
use Rattle.settling.specs.declared.account.Account.{Account}
use Rattle.settling.specs.Window.{cell, account_of}
use Rattle.settling.specs.Order.{fits}
use Rattle.settlement.specs.Accept.{first_bad, unless_bad, judged_contents, accepted, occupied, admitted}
use Rattle.settlement.specs.Box.{BoxState, taken_docket}

-- the bounds of a well-formed docket
record Bounds (d : Docket) : Type 0 where
  known : d.account ≤ 63
  least : 1 ≤ d.number
  most : d.number ≤ 1099511627776

bounds : (d : Docket) (clear : Bool) → None ≡ wrong_place d clear → Bounds d
bounds d clear e = record { known = grind (arith, nat_tests); least = grind (arith, nat_tests); most = grind (arith, nat_tests) }

-- an accepted docket is the certificate's
unless_bad_lem : (x d : Docket) (o : Option ℕ) → unless_bad x o ≡ Ok d → x ≡ d
unless_bad_lem x d None h = cc
unless_bad_lem x d (Some place) h = absurd (never _ d h)

judged_same : (good : ℕ → List ℕ → List ℕ → Bool) (pool needed : ℕ) (bs : List ℕ) (k : Contents) (d : Docket) → judged_contents good pool needed bs k ≡ Ok d → k.docket ≡ d
judged_same good pool needed bs k d h =
    let p = ok_unless (not (eqb k.docket.pool pool)) _ _ d h in
    let q = ok_unless (ltb (length k.entries) needed) _ _ d p.1 in
    unless_bad_lem k.docket d (first_bad good bs k.docket 4 k.entries) q.1

accepted_bounds : (good : ℕ → List ℕ → List ℕ → Bool) (pool boxes needed : ℕ) (bs : List ℕ) (d : Docket) → accepted good pool boxes needed bs ≡ Ok d → Bounds d
unfolding accepted
accepted_bounds good pool boxes needed bs d h =
    let r = ok_then _ _ d h in
    let k = read-accepted boxes bs r.0 (ok_within _ _ _ r.0 r.1) in
    subst Bounds (judged_same good pool needed bs r.0 d r.2) (bounds r.0.docket _ (read_says _ r.0.docket k.docket).fine)

-- what admits a docket
record Admitted (a : Account) (d : Docket) : Type 0 where
  low : a.next ≤ d.number
  high : d.number ≤ a.next + 3
  free : is_some (cell a d.number) ≡ false

free_from : (d e : Docket) (o : Option Docket) → occupied d o ≡ Ok e → (d ≡ e) × (is_some o ≡ false)
free_from d e None h = (cc, refl)
free_from d e (Some w) h = absurd (never _ e (ok_unless _ _ _ e h).1)

admitted_from : (a : Account) (d e : Docket) → admitted a d ≡ Ok e → (d ≡ e) × Admitted a d
admitted_from a d e h =
    let p = ok_unless _ _ _ e h in
    let q = ok_unless _ _ _ e p.1 in
    let f = free_from d e _ q.1 in
    (f.0, record { low = ltb-false _ _ p.0; high = ltb-false _ _ q.0; free = f.1 })

all_fits : (rows : List Account) (d : Docket) → Bounds d → Admitted (account_of rows d.account) d → fits rows d ≡ true
all_fits rows d b a =
    and_from _ _ (le-leb _ _ b.known) (and_from _ _ (le-leb _ _ b.least) (and_from _ _ (le-leb _ _ b.most)
    (and_from _ _ (le-leb _ _ a.low) (and_from _ _ (le-leb _ _ a.high) (ap not a.free)))))

pub taken_fits : {State : Type 0} (good : ℕ → List ℕ → List ℕ → Bool) (b : BoxState State) (bs : List ℕ) (d : Docket) → taken_docket good b bs ≡ Ok d → fits b.accounts d ≡ true
taken_fits good b bs d h =
    let r = ok_then _ _ d h in
    let a = admitted_from (account_of b.accounts r.0.account) r.0 d r.2 in
    subst (λ x. fits b.accounts x ≡ true) a.0 (all_fits b.accounts r.0 (accepted_bounds good b.pool b.boxes b.needed bs r.0 r.1) a.1)
