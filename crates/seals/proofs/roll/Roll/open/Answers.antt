use Rattle.std.proofs.Common.{sym, refl, ◌∙◌, rules, tests}
use Rattle.std.proofs.lemmas.Iterator.Search.{all_from_yields_List}
use Rattle.std.proofs.lemmas.Iterator.{YieldsList-from_slice}
use Rattle.seals.specs.Roll.{laid}
use Rattle.seals.proofs.Laid.{laid_well, laid_wrong, part_left}
use Rattle.seals.proofs.roll.Roll.open.Goals as goal
use Rattle.seals.proofs.roll.Roll.open.Goals.{else-is_empty-via-then-is_empty+else-all, else-is_empty-via-else-is_empty}

pub returns-then-all : goal.returns-then-all
returns-then-all c =
    let all = all_from_yields_List laid _ _ c.all.result c.all.ensures.ran (YieldsList-from_slice c.as_chunks.result.0.now cc) (λ x b q k. search (rules, tests)) in
    (laid_well c.args.bytes.now _ _ c.as_chunks.ensures.front c.as_chunks.ensures.back_len (search (rules, tests)) (sym all ∙ c.if-all.true), refl)

pub returns-else-is_empty : goal.returns-else-is_empty
returns-else-is_empty c = (
  elim c.else-is_empty.branch [
    | else-is_empty-via-then-is_empty+else-all w ↦
        let all = all_from_yields_List laid _ _ w.all.result w.all.ensures.ran (YieldsList-from_slice c.as_chunks.result.0.now cc) (λ x b q k. search (rules, tests)) in
        laid_wrong c.args.bytes.now _ _ c.as_chunks.ensures.front c.as_chunks.ensures.back_len (sym all ∙ w.if-all.false)
    | else-is_empty-via-else-is_empty w ↦ part_left c.args.bytes.now _ _ c.as_chunks.ensures.front c.as_chunks.ensures.back_len (search (rules, tests))
  ],
  refl,
)
