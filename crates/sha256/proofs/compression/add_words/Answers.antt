use Rattle.std.proofs.Common.{get_or, rules}
use Rattle.sha256.proofs.Arrays.{made_by}
use Rattle.sha256.specs.Compression.{added}
use Rattle.sha256.specs.Words.{add}
use Rattle.sha256.proofs.compression.add_words.Goals as goal

pub returns : goal.returns
unfolding added
returns c =
    made_by _ _ (λ i. add (get_or c.args.x i 0) (get_or c.args.y i 0)) _ 8 (λ i r q lt k. search rules) c.from_fn.ensures.items
