use Rattle.std.proofs.Common.{◌≤◌, sym, subst}
use Rattle.settling.specs.declared.account.Account.{Account}
use Rattle.settling.proofs.Bounds.{due_bound, advance_keeps}
use Rattle.settling.proofs.accounts.Accounts.advance.Goals as goal

pub advanced-advanced-requires : goal.advanced-advanced-requires
advanced-advanced-requires c =
    subst (λ (a : Account). a.next ≤ 1099511627776) (sym c.get.ensures) (due_bound c.args.self.now.rows c.args.account c.args.self.now.small c.requires.due)

pub invariant_of-self : goal.invariant_of-self
invariant_of-self c =
    record {
      small = advance_keeps c.args.self.now.rows c.args.account c.get.result c.advanced-advanced.result c.args.self.now.small c.requires.due
          c.get.ensures c.advanced-advanced.ensures;
    }
