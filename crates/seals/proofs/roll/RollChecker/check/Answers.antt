use Rattle.std.proofs.Common.{[], ◌∙◌, arith}
use Rattle.seals.proofs.Laid.{judged_good}
use Rattle.seals.proofs.roll.RollChecker.check.Goals as goal

pub returns-in-Some : goal.returns-in-Some
returns-in-Some c =
    let found = c.in-Some.ensures.lookup.3 in
    c.is_of.ensures
    ∙ judged_good _ _ c.from-index.result c.args.party c.args.text.now c.args.seal.now _ (omega arith) (c.from-index.ensures ∙ c.from_be_bytes.ensures) c.as_chunks.ensures.front (omega (arith, found.0, c.as_chunks.ensures.front_len)) (found.1 [])
