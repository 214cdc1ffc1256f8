-- Settling depends only on which dockets there are. Assumes nothing but the law.
use Rattle.std.proofs.Common.{◌≡◌, ℕ, ◌≤◌, Bool, List, sym, refl, ap, ◌∙◌, subst, ⊎_elim, arith}
use Rattle.std.proofs.lemmas.List.{same_lists}
use Rattle.std.proofs.lemmas.Bool.{cases_lt}
use Rattle.docket.specs.declared.Docket.{Docket}
use Rattle.book.specs.Law.{WeaklyIndependent}
use Rattle.settling.specs.Window.{account_of}
use Rattle.settling.specs.Order.{In, Within, Progress, begun, settled, Settles, progress_of, is_settled, Outcomes, SameOutcome, MoreSettle, SettlingIsOrderFree}
use Rattle.settling.proofs.Bounds.{account_read}
use Rattle.settling.proofs.OrderRuns.{in_turn_lem, run_from}
use Rattle.settling.proofs.OrderDockets.{maximal, one_end}
use Rattle.settling.proofs.OrderNumbers.{all_rise, number_passed, passed_by}
use Rattle.settling.proofs.OrderCounts.{waits_from}
use Rattle.settling.proofs.OrderWindow.{same_account}
use Rattle.settling.proofs.OrderLedger.{waits_at, left_from, none_can}

module _ {State : Type 0} (valid : State → ℕ → List ℕ → Bool) (next : State → ℕ → List ℕ → State) (opening : State) where
  outcome : Outcomes valid next opening
  outcome ds l e =
      let left = left_from valid next opening l ds e in
      let k = left.0 in
      record {
        unique = k.unique;
        order = k.order;
        settles = record { members = k.members; legal = in_turn_lem (settled valid next) (begun opening) (progress_of l) k.order k.run };
        exhausted = λ d i. none_can valid next opening (λ x. In x ds) l d left i;
        waits = λ d i low. waits_at (account_of l.accounts d.account) d.number d ((k.windows d.account).waits d i refl low) refl;
        was_taken = λ a n d w.
            let c = waits_from (account_of l.accounts a) n d w in
            let h = (k.windows a).held n d c.0 in
            (h.0, h.1, c.1, subst (λ x. (account_of l.accounts a).next ≤ x) c.1 h.3);
      }

  wider : (ds es xs : List Docket) (p : Progress State) → Within ds es → Settles valid next opening ds xs p → Settles valid next opening es xs p
  wider ds es xs p more s = record { members = λ d i. more d (s.members d i); legal = s.legal }

  module _ (law : WeaklyIndependent valid next opening) where
    more_settle : MoreSettle valid next opening
    more_settle ds es l m el em more d below =
        let x = outcome ds l el in
        let y = outcome es m em in
        let inner = maximal valid next opening law es y.order x.order (progress_of m) (progress_of l) y.unique y.settles (wider ds es x.order (progress_of l) more x.settles) y.exhausted in
        let run_l = run_from (settled valid next) (begun opening) (progress_of l) x.order x.settles.legal in
        let run_m = run_from (settled valid next) (begun opening) (progress_of m) y.order y.settles.legal in
        let rose = all_rise valid next (begun opening) (progress_of m) y.order d.account run_m in
        let reached : 1 ≤ d.number → is_settled m d = λ low.
        let c = passed_by valid next (begun opening) (progress_of l) x.order d.account d.number run_l low below in
        let p = number_passed valid next (begun opening) (progress_of m) y.order c.0 run_m (inner c.0 c.1) in
        let a = ap (λ b. (account_of m.accounts b).next) c.2 in
        let n = c.3 in
        omega arith in
        ⊎_elim (λ low. omega arith) reached (cases_lt d.number 1)

    same_outcome : SameOutcome valid next opening
    same_outcome ds es l m el em more less =
        let x = outcome ds l el in
        let y = outcome es m em in
        let k = (left_from valid next opening l ds el).0 in
        let j = (left_from valid next opening m es em).0 in
        let same : progress_of l ≡ progress_of m = one_end valid next opening law ds x.order y.order (progress_of l) (progress_of m) x.unique x.settles (wider es ds y.order (progress_of m) less y.settles) x.exhausted (λ d i. y.exhausted d (more d i)) in
        let each : (a : ℕ) → account_of l.accounts a ≡ account_of m.accounts a = λ a.
        same_account (λ d. In d ds) (λ d. In d es) a (account_of l.accounts a) (account_of m.accounts a) (k.windows a) (j.windows a) more less (ap (λ (p : Progress State). p.due a) same) in
        let count = k.rows in
        let count' = j.rows in
        let rows : l.accounts ≡ m.accounts = same_lists l.accounts m.accounts (count ∙ sym count') (λ a other h.
        account_read l.accounts a other h ∙ (each a ∙ sym (account_read m.accounts a other (omega arith)))) in
        λ i. record { state = (same i).state; accounts = rows i }

    pub order_free : SettlingIsOrderFree valid next opening
    order_free = record {
      maximal = maximal valid next opening law;
      one_end = one_end valid next opening law;
      outcomes = outcome;
      same_outcome = same_outcome;
      more_settle = more_settle;
    }
