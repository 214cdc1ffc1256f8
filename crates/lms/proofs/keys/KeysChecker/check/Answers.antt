use Rattle.lms.proofs.Judged.{no_party, by_party}
use Rattle.lms.proofs.keys.KeysChecker.check.Goals as goal

pub returns-in-Some : goal.returns-in-Some
returns-in-Some c = by_party _ _ _ c.in-Some.key.now c.args.party _ c.in-Some.ensures.0 c.in-Some.ensures.1 c.is_verified.ensures

pub returns-in-None : goal.returns-in-None
returns-in-None c = no_party _ _ _ c.args.party c.in-None.ensures
