-- Transfers keep the sum of the balances.
use Rattle.std.proofs.Common.{◌≡◌, ℕ, ◌+◌, ◌-◌, ◌<◌, ◌≤◌, List, length, sum, ap, ⊎_elim, arith}
use Rattle.book.specs.Pallets.{balance, debit, transfer}
use Rattle.book.specs.Transfers.{change_at}
use Rattle.std.proofs.lemmas.List.{get_or_past, length-set, set_past}
use Rattle.std.proofs.lemmas.List.Sums.{sum_by-set, get_or-le-sum_by}
use Rattle.std.proofs.lemmas.Bool.{cases_lt}

-- a debit takes from it what a credit gives

debit_sum : (xs : List ℕ) (i x : ℕ) → x ≤ balance xs i → sum (debit xs i x) + x ≡ sum xs
debit_sum xs i x covers =
    ⊎_elim
    (λ known. omega (arith, sum_by-set (λ (n : ℕ). n) xs i (balance xs i - x) 0 known))
    (λ past. omega (arith, get_or_past xs i 0 past, ap sum (set_past xs i (balance xs i - x) past)))
    (cases_lt i (length xs))

pub transfer_sum : (xs : List ℕ) (i r x : ℕ) → r < length xs → x ≤ balance xs i → sum (transfer xs i r x) ≡ sum xs
transfer_sum xs i r x known covers =
    let e = debit_sum xs i x covers in
    let d = sum_by-set (λ (n : ℕ). n) (debit xs i x) r (balance (debit xs i x) r + x) 0 (simp length-set known) in
    omega arith

pub balance_sum : (xs : List ℕ) (i : ℕ) → balance xs i ≤ sum xs
balance_sum xs i =
    ⊎_elim (λ known. get_or-le-sum_by (λ (n : ℕ). n) xs i 0 known) (λ past. omega (arith, get_or_past xs i 0 past)) (cases_lt i (length xs))

pub debit_shrinks : (xs : List ℕ) (i x k : ℕ) → balance (debit xs i x) k ≤ balance xs k
debit_shrinks xs i x k = change_at (λ m n. n ≤ m) (λ n. n - x) (λ n. omega arith) (λ n. omega arith) xs i k
