use Rattle.std.proofs.Common.{◌≡◌, ◌+◌, ◌*◌, ℕ, List, get_or, ap, ◌∙◌, IfOk, vec_items, map, rules}
use Rattle.lms_vectors.specs.Bytes.{value_of}
use Rattle.lms_vectors.proofs.Steps.{unhex_pairs}
use Rattle.std.proofs.lemmas.Iterator.{YieldsList-from_slice, YieldsList-from_map, items_from_collect}
use Rattle.lms_vectors.proofs.bytes.from_hex.Goals as goal

pub returns : goal.returns
returns c =
    let byte = λ (pair : List ℕ). value_of (get_or pair 0 0) * 16 + value_of (get_or pair 1 0) in
    let read : IfOk c.collect.result (λ v. vec_items v ≡ map byte c.as_chunks.result.0.now) =
    items_from_collect _ c.collect.ensures.ran (YieldsList-from_map _ byte (YieldsList-from_slice c.as_chunks.result.0.now (cc)) c.map.ensures.closure (λ x r q k. search rules)) in
    let whole = ap (map byte) c.as_chunks.ensures.front ∙ unhex_pairs _ c.args.text.now in
    rw whole at read
