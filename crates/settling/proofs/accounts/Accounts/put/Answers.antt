use Rattle.std.proofs.Common.{ap, ◌∙◌}
use Rattle.settling.proofs.Bounds.{store_keeps}
use Rattle.settling.proofs.accounts.Accounts.put.Goals as goal
use Rattle.settling.specs.Window.{placed}

pub invariant_of-self : goal.invariant_of-self
invariant_of-self c =
    record {
      small = store_keeps c.args.self.now.rows c.args.docket c.with-account.result c.args.self.now.small c.if-docket.false
          (c.with-account.ensures ∙ ap (λ a. placed a c.args.docket) c.get.ensures);
    }
