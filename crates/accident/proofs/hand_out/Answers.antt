use Rattle.std.proofs.Common.{ap, ◌∙◌}
use Rattle.accident.specs.Story.{voted_by}
use Rattle.accident.proofs.hand_out.Goals as goal

pub returns-clause-votes : goal.returns-clause-votes
returns-clause-votes g c =
    let good = g.C.Checker.good in
    let b = c.args.boxes.now in
    c.ask_for-4.ensures.votes
    ∙ ap (voted_by good b.fourth) (c.ask_for-3.ensures.votes ∙ ap (voted_by good b.third) (c.ask_for-2.ensures.votes ∙ ap (voted_by good b.second) c.ask_for.ensures.votes))
