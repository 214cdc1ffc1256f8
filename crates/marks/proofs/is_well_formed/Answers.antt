use Rattle.std.proofs.Common.{refl, ◌∙◌}
use Rattle.marks.proofs.Kept.{formed_answer}
use Rattle.marks.proofs.is_well_formed.Goals as goal

pub returns : goal.returns
returns c = c.is_ok.ensures.value ∙ formed_answer c.args.docket.now _ c.write.result refl c.write.ensures.answer
