use Rattle.std.proofs.Common.{◌≡◌, ◌*◌, ◌^◌, ◌≤◌, take, sum}
use Rattle.book.proofs.pallets.sum_of.Given as goal

abbrev pub invariant-loop-balance : goal.invariant-loop-balance
invariant-loop-balance l = (l.total ≡ sum (take l.balance-index l.balances)) × (l.total ≤ l.balance-index * 2 ^ 64)
