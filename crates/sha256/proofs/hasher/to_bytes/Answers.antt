use Rattle.std.proofs.Common.{◌∙◌, ap, rules, arith}
use Rattle.sha256.proofs.Arrays.{mapped_by}
use Rattle.sha256.proofs.Blocks.{bytes_flat}
use Rattle.sha256.specs.Digest.{u32}
use Rattle.std.specs.List.{flat_map}
use Rattle.sha256.proofs.hasher.to_bytes.Goals as goal

pub returns : goal.returns
returns c =
    c.copy_from_slice.ensures.after ∙ c.as_flattened.ensures.value
    ∙ ap (flat_map (λ b. b)) (mapped_by _ _ u32 c.args.words c.map.result 8 (omega arith) c.map.ensures.items (λ x r p q k. search rules))
    ∙ bytes_flat c.args.words
