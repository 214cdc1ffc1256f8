use Rattle.std.proofs.Common.{◌/◌, ◌<◌, ◌≤◌, [], length, get_or, sym, ap, ◌∙◌, arith}
use Rattle.lms.proofs.Levels.{climbed_more, climbed_all}
use Rattle.sha256.proofs.Arrays.{chunk_at}
use Rattle.lms.proofs.tree.climb.Goals as goal

pub loop-sibling-preserved : goal.loop-sibling-preserved
loop-sibling-preserved c =
    let i = c.loop-sibling.sibling-index in
    let path = c.args.path.now in
    let low : i < 10 = omega (arith, c.as_chunks.ensures.front_len) in
    let many : i < length path / 32 = omega arith in
    let sibling = ap (λ l. get_or l i []) c.as_chunks.ensures.front ∙ chunk_at 32 _ path i [] many in
    (omega arith, climbed_more _ path _ c.loop-sibling.value _ 10 i c.loop-sibling.number low sibling c.parent_of-value.ensures ∙ c.loop-sibling.invariant.1)

pub returns : goal.returns
returns c =
    let past : 10 ≤ c.loop-sibling.sibling-index = omega (arith, c.as_chunks.ensures.front_len) in
    sym (climbed_all _ c.args.path.now c.loop-sibling.value _ _ _ past) ∙ c.loop-sibling.invariant.1
