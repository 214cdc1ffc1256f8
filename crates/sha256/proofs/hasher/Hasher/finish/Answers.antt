use Rattle.std.proofs.Common.{◌%◌, take, sym, refl, ◌∙◌, add-zero, arith}
use Rattle.sha256.specs.Hasher.{after}
use Rattle.sha256.proofs.Taken.{ends_here, ends_next}
use Rattle.std.proofs.lemmas.List.{append-nil, length-take-le}
use Rattle.sha256.proofs.hasher.Hasher.finish.Goals as goal

pub returns-then-filled-lt56 : goal.returns-then-filled-lt56
unfolding after
returns-then-filled-lt56 c =
    let len = length-take-le (c.args.self.length % 64) c.args.self.block (omega arith) in
    rw (add-zero, append-nil) ((cc) ∙ sym (ends_here c.args.self.state (take (c.args.self.length % 64) c.args.self.block) c.args.self.length len (omega arith)))

pub returns-else-filled-lt56 : goal.returns-else-filled-lt56
unfolding after
returns-else-filled-lt56 c =
    let len = length-take-le (c.args.self.length % 64) c.args.self.block (omega arith) in
    rw (add-zero, append-nil) ((cc) ∙ sym (ends_next c.args.self.state (take (c.args.self.length % 64) c.args.self.block) _ c.args.self.length len (omega arith) refl))
