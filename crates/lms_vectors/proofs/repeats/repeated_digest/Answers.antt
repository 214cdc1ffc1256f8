use Rattle.std.proofs.Common.{◌≡◌, ◌/◌, [], ap, ◌∙◌, arith}
use native.Mathlib.Nat.{sub-zero}
use Rattle.lms_vectors.proofs.Steps.{copies_none, copies_more}
use Rattle.lms_vectors.proofs.repeats.repeated_digest.Goals as goal
use Rattle.sha256.specs.Digest.{sha256}
use Rattle.std.proofs.lemmas.List.{append-nil}

pub loop-i-init : goal.loop-i-init
loop-i-init c rest = rw copies_none (c.new-hasher.ensures rest)

pub loop-i-preserved : goal.loop-i-preserved
loop-i-preserved c rest = c.update.ensures rest ∙ c.loop-i.invariant _ ∙ ap sha256 (copies_more _ rest _)

pub returns : goal.returns
returns c =
    let end : c.loop-i._i ≡ c.args.n / 256 = omega arith in
    c.finish.ensures ∙ (rw append-nil at (c.update-2.ensures [])) ∙ c.loop-i.invariant _ ∙ rw (end, sub-zero)
