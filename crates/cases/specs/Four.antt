-- A pool of four in which the premise on seals holds, dockets are countersigned, certified and settled, and power is cut.
use Rattle.std.specs.Prelude.{◌≡◌, ℕ, zero, suc, ◌-◌, Bool, true, false, cond, ◌||◌, List, [], ◌∷◌, ◌++◌, map, None, ◌==◌, nat_le}
use Rattle.std.proofs.Math.Dec.{lit<, lit≤}
use Rattle.std.specs.Str.{bytes_eq}
use Rattle.docket.specs.declared.Docket.{Docket}
use Rattle.docket.specs.Layout.{encoded}
use Rattle.certificate.specs.Layout.{head_of}
use Rattle.book.specs.Pallets.{pallet_valid, pallet_next}
use Rattle.seals.specs.Texts.{countersign_text}
use Rattle.marks.specs.Outcomes.{End, ends}
use Rattle.marks.specs.declared.outcome.Outcome.TheVariants.{FailsOld, FailsNew}
use Rattle.std.proofs.lemmas.Option.{none-some}
use Rattle.workbench.specs.Bench.{opening_balances, docket_of}
use Rattle.workbench.specs.declared.bench.BenchDocket.TheVariants.{P, Q}
use Rattle.pool.specs.Ready.{StoreState, SlipState}
use Rattle.pool.specs.History.{Call, countersign, release, join, take as takes, restart, History, Moment}
use Rattle.pool.specs.Promise.{Pool, Accepted, SettledAt, moment_after, SealsHold, Agreement}

-- P moves a pallet from account 0 to 1, and Q one from 1 to 0
abbrev pub docket_p : Docket
docket_p = docket_of P

abbrev pub docket_q : Docket
docket_q = docket_of Q

-- The checker: every yard's seal is good, every seal of box 3 is good, which is faulty, and those of another box are
-- good for P and Q alone.
abbrev pub texts_of : ℕ → List (List ℕ)
texts_of number = countersign_text number (encoded docket_p) ∷ countersign_text number (encoded docket_q) ∷ []

abbrev pub is_one : List ℕ → List (List ℕ) → Bool
is_one text [] = false
is_one text (t ∷ ts) = bytes_eq text t || is_one text ts

abbrev pub good_in_four : ℕ → List ℕ → List ℕ → Bool
good_in_four party text seal = cond (nat_le party 63) true (cond (party == 67) true (is_one text (texts_of (party - 64))))

-- certificates of three boxes, with seals of one byte
abbrev pub certified : List ℕ → Docket → List ℕ
certified numbers d = head_of d (map (λ n. record { number = n; size = 1 }) numbers) ++ map (λ n. 9) numbers

abbrev pub cert_p : List ℕ
cert_p = certified (0 ∷ 1 ∷ 2 ∷ []) docket_p

abbrev pub cert_q : List ℕ
cert_q = certified (0 ∷ 2 ∷ 3 ∷ []) docket_q

-- a store without marks, whose writes end so
abbrev pub unmarked : ℕ → List End → StoreState
unmarked owner row = record { owner = owner; mark = λ _. None; row = row }

-- a slip for number 1 of an account
abbrev pub slip_of : ℕ → ℕ → SlipState
slip_of maker account = record { maker = maker; account = account; number = 1 }

-- Box 0 works on undisturbed. Box 1 is cut in a write that stands, and again in one that does not, and box 2 is cut
-- with a slip in hand, and takes Q first.
abbrev pub calls_of : ℕ → List Call
calls_of zero =
    join ∷ countersign (encoded docket_p) [] ∷ release (slip_of 0 0) ∷ takes cert_p
    ∷ countersign (encoded docket_q) [] ∷ release (slip_of 0 1) ∷ takes cert_q ∷ []
calls_of (suc zero) =
    join ∷ countersign (encoded docket_p) [] ∷ restart ∷ join ∷ countersign (encoded docket_p) [] ∷ release (slip_of 1 0)
    ∷ takes cert_p ∷ countersign (encoded docket_q) [] ∷ restart ∷ takes cert_p ∷ join ∷ countersign (encoded docket_q) []
    ∷ release (slip_of 1 1) ∷ takes cert_q ∷ []
calls_of (suc (suc n)) =
    join ∷ countersign (encoded docket_p) [] ∷ restart ∷ join ∷ release (slip_of 2 0) ∷ takes cert_p
    ∷ countersign (encoded docket_q) [] ∷ release (slip_of 2 1) ∷ restart ∷ takes cert_q ∷ takes cert_p ∷ []

abbrev pub row_of : ℕ → List End
row_of zero = []
row_of (suc zero) = ends FailsNew ∷ ends FailsOld ∷ []
row_of (suc (suc n)) = []

abbrev pub history_of : ℕ → History
history_of number = record {
  store = unmarked number (row_of number);
  own = λ a d e. absurd (none-some d e);
  back = λ a. tt;
  calls = calls_of number;
}

abbrev pub four : Pool
four = record {
  f = 1;
  least = lit≤ tt;
  most = lit≤ tt;
  number = 7;
  small = lit< tt;
  good = good_in_four;
  faulty = 3 ∷ [];
  few = lit≤ tt;
  history = history_of;
}

-- a box after all its calls
abbrev pub at_end : ℕ → Moment (List ℕ)
at_end number = moment_after pallet_valid pallet_next opening_balances four number (calls_of number)

-- what box `number` has done in the end
pub record Done (number : ℕ) : Type 0 where
  pub released : (at_end number).released ≡ texts_of number
  pub settled_p : SettledAt (at_end number) docket_p
  pub settled_q : SettledAt (at_end number) docket_q

pub record PoolOfFour : Type 0 where
  pub accepted_p : Accepted four cert_p docket_p
  pub accepted_q : Accepted four cert_q docket_q
  pub box_0 : Done 0
  pub box_1 : Done 1
  pub box_2 : Done 2
  pub seals_hold : SealsHold pallet_valid pallet_next opening_balances four
  pub agreement : Agreement pallet_valid pallet_next opening_balances four
