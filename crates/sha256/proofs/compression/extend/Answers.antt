use Rattle.std.proofs.Common.{◌≡◌, sym, ◌∙◌, arith, length-set}
use Rattle.sha256.proofs.Turns.{extended_none, extended_more}
use Rattle.std.proofs.lemmas.List.{take_all}
use Rattle.sha256.proofs.compression.extend.Goals as goal

pub loop-t-init : goal.loop-t-init
loop-t-init c = (omega arith, extended_none _)

pub loop-t-preserved : goal.loop-t-preserved
loop-t-preserved c =
    (simp length-set (omega arith), extended_more _ _ _ _ (omega arith) (omega arith) c.loop-t.invariant.1 c.next_word.ensures)

pub returns : goal.returns
returns c =
    let end : c.loop-t.t ≡ 64 = omega arith in
    let whole = take_all 64 c.loop-t.words (omega arith) in
    sym whole ∙ (rw end at c.loop-t.invariant.1)
