use Rattle.std.proofs.Common.{ap, ◌∙◌}
use Rattle.lms.specs.Verify.{candidate}
use Rattle.lms.proofs.Judged.{judged, no_key, no_seal}
use Rattle.lms.proofs.verify.is_verified.Goals as goal

pub returns-in_default : goal.returns-in_default
returns-in_default c = no_key _ _ _ c.in_default.ensures

pub returns-in_default-parse : goal.returns-in_default-parse
returns-in_default-parse c = no_seal _ _ _ c.in_default-parse.ensures

pub returns : goal.returns
returns c =
    let key = c.in-Some.ensures in
    let seal = c.in-Some-parse.ensures in
    judged c.args.key.now c.args.text.now c.args.seal.now c.candidate_root.result c.in-Some.key.root.now _ key.0 seal.0
    (c.candidate_root.ensures c.args.seal.now seal.1.1 ∙ ap (λ I. candidate I c.args.text.now c.args.seal.now) key.1.0) key.1.1 c.eq.ensures
