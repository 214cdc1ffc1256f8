-- The bench's roll is well laid. Assumes nothing.
use Rattle.std.proofs.Common.{◌≡◌, ℕ, ◌^◌, Bool, true, false, cond, leb, List, Ok, Err, sum, Result, refl, ap, arith}
use Rattle.docket.specs.Layout.{encoded}
use Rattle.seals.specs.Roll.{entries_laid, well_laid}
use Rattle.refusals.specs.Reading.{Reading, found}
use Rattle.refusals.specs.declared.Layer.TheVariants.{Book}
use Rattle.refusals.specs.declared.Cause.TheVariants as cause
use Rattle.book.specs.Pallets.{States, set_up}
use Rattle.workbench.specs.Bench.{bench_roll}

pub bench_laid : well_laid bench_roll ≡ true
unfolding bench_roll entries_laid encoded
bench_laid = refl

-- a pallet book that is set up opens with the balances that were given
opened_by : (b : Bool) (s t : States) (e : Reading) → Ok s ≡ cond b (Ok t) (Err e) → s.opening ≡ t.opening
opened_by true s t e h = ap (λ (r : Result States Reading). opening_or s r) h
  where
    opening_or : States → Result States Reading → List ℕ
    opening_or d (Ok x) = x.opening
    opening_or d (Err r) = d.opening
opened_by false s t e h = let z : ◌≡◌ {A = ℕ} 0 1 = cc in absurd (omega arith)

pub opened : (balances : List ℕ) (s : States) → Ok s ≡ set_up balances → s.opening ≡ balances
opened balances s h = opened_by (leb (sum balances) (2 ^ 40)) s (record { opening = balances; kept = balances; current = balances }) (found Book cause.Overfull 0) h
