use Rattle.std.proofs.Common.{rules}
use Rattle.sheet.proofs.Lasting.{laid_is}
use Rattle.sheet.proofs.is_laid.Goals as goal

pub returns : goal.returns
returns c = laid_is c.args.bytes.now c.is_some_and.result _ (λ p q. search rules) c.of.result c.of.ensures c.is_some_and.ensures
