use Rattle.std.proofs.Common.{subst}
use Rattle.marks.specs.Marks.{ReadsBack}
use Rattle.marks.proofs.Kept.{some_formed}
use Rattle.marks.proofs.TableStoreMarkStore.read.Goals as goal

pub returns-clause-back : goal.returns-clause-back
returns-clause-back c =
    subst ReadsBack c.get.ensures (c.give.ensures.back (some_formed c.args.self.now.marks c.args.account c.get.result c.args.self.now.own c.get.ensures))
