use Rattle.std.proofs.Common.{◌≡◌, ◌+◌, arith}
use Rattle.lms.specs.Keys.{good_under}
use Rattle.lms_vectors.proofs.Steps.{counts, at_most, none_yet}
use Rattle.lms_vectors.proofs.seals_check.count_good.Goals as goal

pub overflow_add-count : goal.overflow_add-count
overflow_add-count c =
    let more = counts _ _ _ _ _ c.loop-i.invariant c.is_good.ensures c.from-count.ensures in
    let most = at_most (good_under c.args.keys.now 76 c.args.text.now c.args.seal.now) (c.loop-i._i + 1) in
    omega arith

pub loop-i-init : goal.loop-i-init
loop-i-init c = none_yet (good_under c.args.keys.now 76 c.args.text.now c.args.seal.now)

pub loop-i-preserved : goal.loop-i-preserved
loop-i-preserved c = counts _ _ _ _ _ c.loop-i.invariant c.is_good.ensures c.from-count.ensures

pub returns : goal.returns
returns c =
    let end : c.loop-i._i ≡ c.args.n = omega arith in
    rw end at c.loop-i.invariant
