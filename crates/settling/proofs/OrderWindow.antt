-- An account's cells hold just the dockets of that account that were taken and have not settled. Assumes nothing.
use Rattle.std.proofs.Common.{◌≡◌, ℕ, zero, suc, ◌+◌, ◌%◌, ◌<◌, ◌≤◌, ◌⊎◌, List, length, get_or, set, Some, None, Option, sym, refl, ap, ◌∙◌, subst, inl, inr, ⊎_elim, arith}
use Rattle.std.proofs.lemmas.Option.{none-some, same_Some}
use Rattle.std.proofs.lemmas.Bool.{cases_eq}
use Rattle.std.proofs.lemmas.List.{length-set, get_or-set_same, get_or-set_other, get_or_default, same_lists}
use Rattle.docket.specs.declared.Docket.{Docket}
use Rattle.settling.specs.declared.account.Account.{Account}
use Rattle.settling.specs.Window.{fresh, cell, waiting, placed, advanced}
use Rattle.settling.proofs.OrderCounts.{waits_from}

-- one more docket
abbrev pub And : (Docket → Type 0) → Docket → Docket → Type 0
And Taken d e = Taken e ⊎ (e ≡ d)

pub record Window (Taken : Docket → Type 0) (a : ℕ) (r : Account) : Type 0 where
  pub four : length r.cells ≡ 4
  pub waits : (d : Docket) → Taken d → d.account ≡ a → r.next ≤ d.number → cell r d.number ≡ Some d
  pub held : (n : ℕ) (d : Docket) → cell r n ≡ Some d → Taken d × (d.account ≡ a) × (d.number % 4 ≡ n % 4) × (r.next ≤ d.number)

cell_set_same : (cs : List (Option Docket)) (m n : ℕ) (x : Option Docket) → length cs ≡ 4 → m % 4 ≡ n % 4 → get_or (set cs (m % 4) x) (n % 4) None ≡ x
cell_set_same cs m n x h e = ap (λ i. get_or (set cs (m % 4) x) i None) (sym e) ∙ get_or-set_same cs (m % 4) x None (omega arith)

cell_set_other : (cs : List (Option Docket)) (m n : ℕ) (x : Option Docket) → (m % 4 ≡ n % 4 → ⊥) → get_or (set cs (m % 4) x) (n % 4) None ≡ get_or cs (n % 4) None
cell_set_other cs m n x ne = get_or-set_other cs (m % 4) (n % 4) x None (λ z. ne (sym z))

pub fresh_window : (Taken : Docket → Type 0) (a : ℕ) → ((d : Docket) → Taken d → ⊥) → Window Taken a fresh
fresh_window Taken a no-docket = record {
  four = refl;
  waits = λ d t. absurd (no-docket d t);
  held = λ n d e. absurd (none-some d (sym (empty (n % 4)) ∙ e));
}
  where
    empty : (i : ℕ) → get_or fresh.cells i None ≡ None
    empty zero = refl
    empty (suc zero) = refl
    empty (suc (suc zero)) = refl
    empty (suc (suc (suc zero))) = refl
    empty (suc (suc (suc (suc i)))) = refl

pub window_advanced : (Taken : Docket → Type 0) (a : ℕ) (r : Account) (d : Docket) → Window Taken a r → waiting r r.next ≡ Some d → Window Taken a (advanced r)
window_advanced Taken a r d w due = record { four = length-set r.cells (r.next % 4) None ∙ w.four; waits = waits'; held = held' }
  where
    first : (cell r r.next ≡ Some d) × (d.number ≡ r.next)
    first = waits_from r r.next d due

    waits' : (e : Docket) → Taken e → e.account ≡ a → r.next + 1 ≤ e.number → cell (advanced r) e.number ≡ Some e
    waits' e t s low =
        let old = w.waits e t s (omega arith) in
        let apart : r.next % 4 ≡ e.number % 4 → ⊥ = λ z.
        let same = ap (λ (x : Docket). x.number) (same_Some d e (sym first.0 ∙ (ap (λ i. get_or r.cells i None) z ∙ old))) in
        let n = first.1 in
        omega arith in
        cell_set_other r.cells r.next e.number None apart ∙ old

    held' : (n : ℕ) (e : Docket) → cell (advanced r) n ≡ Some e → Taken e × (e.account ≡ a) × (e.number % 4 ≡ n % 4) × (r.next + 1 ≤ e.number)
    held' n e h =
        ⊎_elim (λ z. absurd (none-some e (sym (cell_set_same r.cells r.next n None w.four z) ∙ h)))
        (λ z.
        let old = w.held n e (sym (cell_set_other r.cells r.next n None z) ∙ h) in
        let more : r.next ≡ e.number → ⊥ = λ y. z (ap (λ x. x % 4) y ∙ old.2) in
        let low = old.3 in
        (old.0, old.1, old.2, omega arith))
        (cases_eq (r.next % 4) (n % 4))

pub window_placed :
    (Taken : Docket → Type 0) (a : ℕ) (r : Account) (d : Docket) → Window Taken a r → d.account ≡ a → r.next ≤ d.number → cell r d.number ≡ None
    → Window (And Taken d) a (placed r d)
window_placed Taken a r d w at low free = record { four = length-set r.cells (d.number % 4) (Some d) ∙ w.four; waits = waits'; held = held' }
  where
    waits' : (e : Docket) → And Taken d e → e.account ≡ a → r.next ≤ e.number → cell (placed r d) e.number ≡ Some e
    waits' e (inl t) s h =
        let old = w.waits e t s h in
        let apart : d.number % 4 ≡ e.number % 4 → ⊥ = λ z. none-some e (sym free ∙ (ap (λ i. get_or r.cells i None) z ∙ old)) in
        cell_set_other r.cells d.number e.number (Some d) apart ∙ old
    waits' e (inr same) s h = cell_set_same r.cells d.number e.number (Some d) w.four (ap (λ (x : Docket). x.number % 4) (sym same)) ∙ ap Some (sym same)

    held' : (n : ℕ) (e : Docket) → cell (placed r d) n ≡ Some e → And Taken d e × (e.account ≡ a) × (e.number % 4 ≡ n % 4) × (r.next ≤ e.number)
    held' n e h =
        ⊎_elim
        (λ z.
        let same = same_Some d e (sym (cell_set_same r.cells d.number n (Some d) w.four z) ∙ h) in
        (inr (sym same), ap (λ (x : Docket). x.account) (sym same) ∙ at, ap (λ (x : Docket). x.number % 4) (sym same) ∙ z, subst (λ (x : Docket). r.next ≤ x.number) same low))
        (λ z.
        let old = w.held n e (sym (cell_set_other r.cells d.number n (Some d) z) ∙ h) in
        (inl old.0, old.1, old.2, old.3))
        (cases_eq (d.number % 4) (n % 4))

pub window_other : (Taken : Docket → Type 0) (b : ℕ) (r : Account) (d : Docket) → Window Taken b r → (d.account ≡ b → ⊥) → Window (And Taken d) b r
window_other Taken b r d w apart = record {
  four = w.four;
  waits = λ e. ⊎_elim (λ t. w.waits e t) (λ same s. absurd (apart (ap (λ (x : Docket). x.account) (sym same) ∙ s)));
  held = λ n e h. let old = w.held n e h in (inl old.0, old.1, old.2, old.3);
}

-- the same dockets and the same next number leave the same account
same_option : (o p : Option Docket) → ((d : Docket) → o ≡ Some d → p ≡ Some d) → ((d : Docket) → p ≡ Some d → o ≡ Some d) → o ≡ p
same_option None None f g = refl
same_option None (Some d) f g = g d refl
same_option (Some d) p f g = sym (f d refl)

pub also_held : (T U : Docket → Type 0) (a : ℕ) (r s : Account) → Window T a r → Window U a s → ((d : Docket) → T d → U d) → r.next ≡ s.next → (n : ℕ) (d : Docket) → cell r n ≡ Some d → cell s n ≡ Some d
also_held T U a r s v w more e n d h =
    let x = v.held n d h in
    let low = x.3 in
    ap (λ i. get_or s.cells i None) (sym x.2) ∙ w.waits d (more d x.0) x.1 (omega arith)

pub same_account :
    (T U : Docket → Type 0) (a : ℕ) (r s : Account) → Window T a r → Window U a s → ((d : Docket) → T d → U d) → ((d : Docket) → U d → T d)
    → r.next ≡ s.next → r ≡ s
same_account T U a r s v w more less e =
    let four = v.four in
    let four' = w.four in
    let same : (k : ℕ) (x : Option Docket) → k < length r.cells → get_or r.cells k x ≡ get_or s.cells k x = λ k x h.
    let m : k % 4 ≡ k = omega arith in
    let c = same_option (cell r k) (cell s k) (also_held T U a r s v w more e k) (also_held U T a s r w v less (sym e) k) in
    get_or_default r.cells k x None h
    ∙ (ap (λ i. get_or r.cells i None) (sym m) ∙ (c ∙ (ap (λ i. get_or s.cells i None) m ∙ sym (get_or_default s.cells k x None (omega arith))))) in
    let cs : r.cells ≡ s.cells = same_lists r.cells s.cells (four ∙ sym four') same in
    λ i. record { next = e i; cells = cs i }
