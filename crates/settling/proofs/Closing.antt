-- The loop that settles: each turn settles one docket of those that wait. Assumes nothing.
use Rattle.std.proofs.Common.{◌≡◌, ℕ, zero, suc, ◌+◌, ◌*◌, ◌%◌, ◌<◌, ◌≤◌, Bool, true, List, [], ◌∷◌, length, is_some, Some, None, Option, unwrap_or, sym, refl, ap, ◌∙◌, subst, arith}
use Rattle.std.specs.Option.{option_map}
use Rattle.std.proofs.lemmas.Bool.{and_parts}
use Rattle.docket.specs.declared.Docket.{Docket}
use Rattle.settling.specs.declared.account.Account.{Account}
use Rattle.settling.specs.Window.{waiting, advanced, account_of, advanced_in, bounded_account, all_bounded, Bounded}
use Rattle.settling.specs.Settle.{waiting_in, waiting_count, Ledger, ready, lowest_ready, settle_one, settle_up_to, settle_all}
use Rattle.settling.proofs.Bounds.{parts}
use Rattle.settling.proofs.OrderCounts.{fewer_in, fewer, waits_from, ready_from, found}

in_cells : (cs : List (Option Docket)) → waiting_in cs ≤ length cs
in_cells [] = omega arith
in_cells (None ∷ cs) = let f = in_cells cs in omega arith
in_cells (Some x ∷ cs) = let f = in_cells cs in omega arith

in_accounts : (rows : List Account) → all_bounded rows ≡ true → waiting_count rows ≤ 4 * length rows
in_accounts [] h = omega arith
in_accounts (r ∷ rs) h =
    let p = and_parts (bounded_account r) (all_bounded rs) h in
    let f = in_accounts rs p.1 in
    let c = in_cells r.cells in
    let l = (parts r p.0).1 in
    omega arith

pub few_wait : (rows : List Account) → Bounded rows → waiting_count rows ≤ 256
few_wait rows b = let f = in_accounts rows b.1 in let l = b.0 in omega arith

module _ {State : Type 0} (valid : State → ℕ → List ℕ → Bool) (next : State → ℕ → List ℕ → State) where
  -- one docket settles, and one fewer waits
  pub record Settles (s : State) (rows : List Account) (a : ℕ) (t : State) : Type 0 where
    pub within : a < length rows
    pub due : is_some (waiting (account_of rows a) (account_of rows a).next) ≡ true
    pub fewer : waiting_count rows ≡ suc (waiting_count (advanced_in rows a))

  pub settles : (s : State) (rows : List Account) (a : ℕ) (t : State) → lowest_ready valid next 0 s rows ≡ Some (a, t) → Settles s rows a t
  settles s rows a t e =
      let f = found valid next 0 s rows (a, t) e in
      let w : f.0 ≡ a = omega arith in
      let c : ready valid next s (account_of rows a) ≡ Some t = subst (λ (k : ℕ). ready valid next s (account_of rows k) ≡ Some t) w f.3 in
      let r = account_of rows a in
      let d = ready_from valid next s t r c in
      record {
        within = omega arith;
        due = ap is_some d.1;
        fewer = fewer rows a (advanced r) (omega arith) (fewer_in r.cells (r.next % 4) d.0 (waits_from r r.next d.0 d.1).0);
      }

  -- the settling from `start` on, after `count` dockets
  pub record Along (start : Ledger State) (count : ℕ) (here : Ledger State) : Type 0 where
    pub counted : count + (settle_up_to valid next (waiting_count here.accounts) here).0 ≡ (settle_all valid next start).0
    pub ends : (settle_up_to valid next (waiting_count here.accounts) here).1 ≡ (settle_all valid next start).1
    pub left : count + waiting_count here.accounts ≡ waiting_count start.accounts

  pub along_none : (start : Ledger State) → Along start 0 start
  unfolding settle_all
  along_none start = record { counted = omega arith; ends = refl; left = omega arith }

  pub along_more :
      (start here : Ledger State) (count a : ℕ) (t : State) → Along start count here → lowest_ready valid next 0 here.state here.accounts ≡ Some (a, t)
      → Along start (count + 1) (record { state = t; accounts = advanced_in here.accounts a })
  unfolding settle_one
  along_more start here count a t h e =
      let f = (settles here.state here.accounts a t e).fewer in
      let there : Ledger State = record { state = t; accounts = advanced_in here.accounts a } in
      let rest = settle_up_to valid next (waiting_count (advanced_in here.accounts a)) there in
      let u : settle_up_to valid next (waiting_count here.accounts) here ≡ (suc rest.0, rest.1) = rw (f, e) in
      let u0 : (settle_up_to valid next (waiting_count here.accounts) here).0 ≡ suc rest.0 = ap (λ (x : ℕ × Ledger State). x.0) u in
      let c = h.counted in
      let l = h.left in
      record {
        counted = omega arith;
        ends = sym (ap (λ (x : ℕ × Ledger State). x.1) u) ∙ h.ends;
        left = omega arith;
      }

  -- none is left that can settle
  pub record Done (start : Ledger State) (count : ℕ) (here : Ledger State) : Type 0 where
    pub counted : count ≡ (settle_all valid next start).0
    pub ends : here ≡ (settle_all valid next start).1
    pub settled : settle_one valid next here ≡ None

  stays : (n : ℕ) (here : Ledger State) → settle_one valid next here ≡ None → settle_up_to valid next n here ≡ (0, here)
  stays zero here e = refl
  stays (suc n) here e = rw e

  pub along_all : (start here : Ledger State) (count : ℕ) → Along start count here → lowest_ready valid next 0 here.state here.accounts ≡ None → Done start count here
  unfolding settle_one
  along_all start here count h e =
      let n : settle_one valid next here ≡ None = rw e in
      let u = stays (waiting_count here.accounts) here n in
      let u0 : (settle_up_to valid next (waiting_count here.accounts) here).0 ≡ 0 = ap (λ (x : ℕ × Ledger State). x.0) u in
      let c = h.counted in
      record { counted = omega arith; ends = sym (ap (λ (x : ℕ × Ledger State). x.1) u) ∙ h.ends; settled = n }

  pairs : {a b : ℕ} {t u : State} → a ≡ b → t ≡ u → ◌≡◌ {A = ℕ × State} (a, t) (b, u)
  pairs {a} {b} {t} {u} p q = ap (λ (n : ℕ). (n, t)) p ∙ ap (λ (x : State). (b, x)) q

  -- what the search for the lowest answers, as one value
  pub lowest_some :
      (s u : State) (a : ℕ) (lowest : Option (ℕ × State)) → Some a ≡ option_map (λ (x : ℕ × State). x.0) lowest
      → u ≡ unwrap_or (option_map (λ (x : ℕ × State). x.1) lowest) s → lowest ≡ Some (a, u)
  lowest_some s u a None e f = let z : ◌≡◌ {A = ℕ} 0 1 = cc in absurd (omega arith)
  lowest_some s u a (Some x) e f =
      let p : x.0 ≡ a = cc in
      let q : x.1 ≡ u = sym f in
      ap Some (pairs p q)

  pub lowest_none :
      (s u : State) (lowest : Option (ℕ × State)) → None ≡ option_map (λ (x : ℕ × State). x.0) lowest
      → u ≡ unwrap_or (option_map (λ (x : ℕ × State). x.1) lowest) s → (lowest ≡ None) × (u ≡ s)
  lowest_none s u None e f = (refl, f)
  lowest_none s u (Some x) e f = let z : ◌≡◌ {A = ℕ} 0 1 = cc in absurd (omega arith)

  -- the same, where the book's state goes by other names at the start and at the end
  pub along_end :
      (first s₀ s u : State) (rows₀ rows : List Account) (count : ℕ) → s₀ ≡ first
      → Along (record { state = s₀; accounts = rows₀ }) count (record { state = s; accounts = rows })
      → lowest_ready valid next 0 s rows ≡ None → u ≡ s
      → Done (record { state = first; accounts = rows₀ }) count (record { state = u; accounts = rows })
  along_end first s₀ s u rows₀ rows count e h n f =
      let d = along_all (record { state = s₀; accounts = rows₀ }) (record { state = s; accounts = rows }) count h n in
      let d' = subst (λ (x : State). Done (record { state = s₀; accounts = rows₀ }) count (record { state = x; accounts = rows })) (sym f) d in
      subst (λ (x : State). Done (record { state = x; accounts = rows₀ }) count (record { state = u; accounts = rows })) e d'

  pub along_next :
      (start : Ledger State) (s t : State) (rows rows' : List Account) (count a : ℕ) → Along start count (record { state = s; accounts = rows })
      → lowest_ready valid next 0 s rows ≡ Some (a, t) → rows' ≡ advanced_in rows a → Along start (count + 1) (record { state = t; accounts = rows' })
  along_next start s t rows rows' count a h e f =
      subst (λ (r : List Account). Along start (count + 1) (record { state = t; accounts = r })) (sym f) (along_more start (record { state = s; accounts = rows }) count a t h e)

  -- a turn's bounds: fewer wait after it, and the count stays small
  pub turn_less : (s t : State) (rows rows' : List Account) (a : ℕ) → lowest_ready valid next 0 s rows ≡ Some (a, t) → rows' ≡ advanced_in rows a → waiting_count rows' < waiting_count rows
  turn_less s t rows rows' a e f = let w = (settles s rows a t e).fewer in let v = ap waiting_count f in omega arith

  pub turn_count :
      (start here : Ledger State) (count : ℕ) → Bounded start.accounts → Along start count here → count ≤ 256
  turn_count start here count b h = let w = few_wait start.accounts b in let l = h.left in omega arith
