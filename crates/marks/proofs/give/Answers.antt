use Rattle.marks.proofs.Kept.{back_of}
use Rattle.marks.proofs.give.Goals as goal

pub returns-in-Some-clause-back : goal.returns-in-Some-clause-back
returns-in-Some-clause-back c = back_of c.args.mark c.in-Some.docket c.in-Some.is c.to_bytes.ensures.sized
