use Rattle.std.proofs.Common.{◌∙◌, rules, arith}
use Rattle.sha256.specs.Compression.{constants, turned}
use Rattle.sha256.proofs.Turns.{all_by_eights}
use Rattle.std.proofs.lemmas.Iterator.{YieldsList-from_slice, YieldsList-from_zip}
use Rattle.std.proofs.lemmas.Iterator.Consumers.{fold_from_yields_List}
use Rattle.std.specs.List.{zip}
use Rattle.std.specs.Simd.{first_chunks}
use Rattle.sha256.proofs.compression.all_turns.Goals as goal

pub returns : goal.returns
unfolding constants
returns c =
    fold_from_yields_List _ (λ s p. turned s (zip p.0 p.1)) _ _ c.fold.ensures.ran
    (YieldsList-from_zip (YieldsList-from_slice (first_chunks 8 8 constants) (cc)) (YieldsList-from_slice c.as_chunks-2.result.0.now (cc)))
    (λ a x b q k. search rules)
    ∙ all_by_eights c.args.words.now c.args.start c.as_chunks-2.result.0.now (omega arith) c.as_chunks-2.ensures.front
