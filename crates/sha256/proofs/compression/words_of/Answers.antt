use Rattle.std.proofs.Common.{◌≡◌, ◌*◌, ◌/◌, ◌<◌, [], length, get_or, ap, ◌∙◌, rules, arith}
use Rattle.sha256.proofs.Arrays.{made_by, word_of_chunk}
use Rattle.sha256.specs.Compression.{word_at, words_of}
use Rattle.std.specs.Int.{w32, from_be_bytes}
use Rattle.sha256.proofs.compression.words_of.Goals as goal

pub returns : goal.returns
unfolding words_of
returns c =
    made_by _ _ (λ i. word_at c.args.block.now (4 * i)) _ 16
    (λ i r q lt k.
    let read : r ≡ from_be_bytes w32 (get_or c.as_chunks.result.0.now i []) = search rules in
    let low : i < length c.args.block.now / 4 = omega arith in (
      search rules,
      read ∙ ap (λ parts. from_be_bytes w32 (get_or parts i [])) c.as_chunks.ensures.front ∙ word_of_chunk _ c.args.block.now i [] low,
    ))
    c.from_fn.ensures.items
