use Rattle.std.proofs.Common.{[], ◌∷◌, ap, ◌∙◌}
use Rattle.marks.specs.declared.outcome.Outcome.TheVariants.{FailsNew}
use Rattle.accident.specs.Story.{started, voted, voted_late}
use Rattle.accident.proofs.cut.Goals as goal

pub returns-clause-votes : goal.returns-clause-votes
returns-clause-votes g c =
    let good = g.C.Checker.good in
    let third = c.in_ok-third.ensures.at in
    let two = c.in_ok-second.ensures.votes ∙ ap (voted (good c.args.checker) 1 (started 1 (FailsNew ∷ []))) c.in_ok-first.ensures.votes in
    let three = c.in_ok-fourth.ensures.votes ∙ ap (voted (good c.args.checker) 3 (started 3 [])) two in
    c.in_ok-cut_with_slip.ensures.votes ∙ (λ i. voted_late (good (third.judge i)) (third.number_is i) (third.stand i) (three i))
