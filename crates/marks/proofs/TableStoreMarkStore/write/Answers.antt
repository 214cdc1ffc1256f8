use Rattle.std.proofs.Common.{◌∙◌, sym}
use Rattle.marks.proofs.Kept.{marked_set}
use Rattle.marks.proofs.TableStoreMarkStore.write.Goals as goal

pub invariant_of-self : goal.invariant_of-self
invariant_of-self c =
    record { own = marked_set c.args.self.now.marks c.from.result c.args.docket.now c.from.ensures c.args.self.now.own (sym c.is_well_formed.ensures ∙ c.if-not-is_well_formed.false) }
