use Rattle.std.proofs.Common.{ℕ, sum, ap, ◌∙◌, arith}
use Rattle.std.proofs.lemmas.List.{take_all}
use Rattle.std.proofs.lemmas.List.Sums.{sum_by_more}
use Rattle.book.proofs.pallets.sum_of.Goals as goal

pub loop-balance-preserved : goal.loop-balance-preserved
loop-balance-preserved c =
    let more = sum_by_more (λ (x : ℕ). x) c.args.balances.now c.loop-balance.balance-index 0 (omega arith) in
    (omega arith, omega (arith, c.fits-balances c.loop-balance.balance-index))

pub returns : goal.returns
returns c = c.loop-balance.invariant.0 ∙ ap sum (take_all c.loop-balance.balance-index c.args.balances.now (omega arith))
