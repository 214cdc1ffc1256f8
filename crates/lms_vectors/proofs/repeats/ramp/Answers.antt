use Rattle.std.proofs.Common.{rules}
use Rattle.lms_vectors.proofs.repeats.ramp.Goals as goal

pub returns : goal.returns
returns c k lt =
    let at = c.from_fn.ensures.items.at k 0 lt in
    let call = at.2 in
    search rules
