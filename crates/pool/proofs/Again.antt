-- What was read once reads again from its own layout, so that no two dockets have one layout. Assumes nothing.
use Rattle.std.proofs.Common.{◌≡◌, ℕ, ◌<◌, Bool, true, false, List, length, None, Ok, Result, sym, refl, ap, ◌∙◌, subst, arith}
use Rattle.refusals.specs.Reading.{Reading}
use Rattle.std.proofs.lemmas.List.Edits.{length-between}
use Rattle.std.proofs.lemmas.Bool.Decides.{nat_tests}
use Rattle.docket.specs.declared.Docket.{Docket}
use Rattle.docket.specs.Layout.{wrong_place, decoded, encoded, Sized, read_docket}
use Rattle.docket.proofs.RoundTrip.{read_says, reads, length_encoded}

number_small : (d : Docket) (clear : Bool) → None ≡ wrong_place d clear → d.number < 18446744073709551616
number_small d clear e = grind (arith, nat_tests)

clear_true : (d : Docket) (clear : Bool) → None ≡ wrong_place d clear → None ≡ wrong_place d true
clear_true d true e = e
clear_true d false e = grind (arith, nat_tests)

decoded_sized : (bs : List ℕ) → length bs ≡ 80 → (decoded bs).pool < 4294967296 → (decoded bs).number < 18446744073709551616 → Sized (decoded bs)
unfolding decoded
decoded_sized bs long p n =
    (p, n, refl, length-between bs 16 32 (omega arith), length-between bs 32 48 (omega arith), length-between bs 48 64 (omega arith), length-between bs 64 80 (omega arith))

pub read_sized : (bs : List ℕ) (d : Docket) → read_docket bs ≡ Ok d → d.pool < 4294967296 → Sized d
read_sized bs d h p =
    let r = read_says bs d h in
    let n = number_small d _ r.fine in
    subst Sized (sym r.is) (decoded_sized bs r.long (subst (λ (x : Docket). x.pool < 4294967296) r.is p) (subst (λ (x : Docket). x.number < 18446744073709551616) r.is n))

pub read_again : (bs : List ℕ) (d : Docket) → read_docket bs ≡ Ok d → d.pool < 4294967296 → read_docket (encoded d) ≡ Ok d
read_again bs d h p =
    let r = read_says bs d h in
    let s = read_sized bs d h p in
    reads d (encoded d) (encoded d) s (clear_true d _ r.fine) refl (length_encoded d s) refl

pub ok_same : (d e : Docket) → ◌≡◌ {A = Result Docket Reading} (Ok d) (Ok e) → d ≡ e
ok_same d e h = cc

-- dockets that read again are equal if their layouts are
pub same_layout : (d e : Docket) → read_docket (encoded d) ≡ Ok d → read_docket (encoded e) ≡ Ok e → encoded d ≡ encoded e → d ≡ e
same_layout d e x y h = ok_same d e (sym x ∙ (ap read_docket h ∙ y))
