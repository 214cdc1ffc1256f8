use Rattle.std.proofs.Common.{subst}
use Rattle.marks.specs.Marks.{ReadsBack}
use Rattle.sheet.proofs.Lasting.{on_formed}
use Rattle.sheet.proofs.SheetMarkStore.read.Goals as goal

pub returns-clause-back : goal.returns-clause-back
returns-clause-back c = subst ReadsBack c.find.ensures (c.give.ensures.back (on_formed c.args.self.now.bytes.now c.args.account c.find.result c.find.ensures))
