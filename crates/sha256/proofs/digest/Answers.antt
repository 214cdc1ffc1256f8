use Rattle.std.proofs.Common.{[], ◌∙◌}
use Rattle.sha256.proofs.Examples.{abc}
use Rattle.std.proofs.lemmas.List.{append-nil}
use Rattle.sha256.proofs.digest.Goals as goal

pub returns : goal.returns
returns c =
    record {
      value = c.finish.ensures ∙ (rw append-nil at (c.update.ensures [])) ∙ c.new-hasher.ensures _;
      example = abc;
    }
