use Rattle.std.proofs.Common.{◌∙◌, ap, rules}
use Rattle.sha256.proofs.Blocks.{folded_fold}
use Rattle.sha256.specs.Compression.{compressed}
use Rattle.std.proofs.lemmas.Iterator.{YieldsList-from_slice}
use Rattle.std.proofs.lemmas.Iterator.Consumers.{fold_from_yields_List}
use Rattle.std.specs.List.{fold}
use Rattle.sha256.proofs.hasher.fold_blocks.Goals as goal

pub returns : goal.returns
returns c =
    fold_from_yields_List _ compressed _ _ c.fold.ensures.ran (YieldsList-from_slice _ (c.iter.ensures.rest)) (λ a x b q k. search rules)
    ∙ ap (fold compressed c.args.start) c.as_chunks.ensures.front
    ∙ folded_fold _ c.args.start c.args.bytes.now
