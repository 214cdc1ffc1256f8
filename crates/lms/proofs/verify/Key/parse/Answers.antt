use Rattle.std.proofs.Common.{◌≡◌, length, sym, refl, ◌∙◌, arith}
use Rattle.lms.proofs.Parsed.{next_in, part_in, word_in, is_key-true}
use Rattle.std.proofs.lemmas.Slice.{between_to_end}
use Rattle.lms.proofs.verify.Key.parse.Goals as goal

pub returns-then-from_be_bytes-eq-ONE_TIME_TYPE : goal.returns-then-from_be_bytes-eq-ONE_TIME_TYPE
returns-then-from_be_bytes-eq-ONE_TIME_TYPE c =
    let bytes = c.args.bytes.now in
    let lms = c.in_ok-lms_type.ensures.cases in
    let ots = c.in_ok-one_time_type.ensures.cases in
    let id = c.in_ok-id.ensures.cases in
    let root = c.in_ok-root.ensures.cases in
    let long : length bytes ≡ 56 = omega (arith, lms.2, ots.2, id.2, root.long) in
    let at8 = next_in bytes 4 4 _ c.in_ok-one_time_type.rest.now lms.1 ots.1 in
    let at24 = next_in bytes 8 16 _ c.in_ok-id.rest.now at8 id.1 in (
      is_key-true bytes long
          (sym (word_in bytes 0 c.from_be_bytes.result bytes c.in_ok-lms_type.lms_type.now refl lms.0 c.from_be_bytes.ensures) ∙ c.if-from_be_bytes-eq-LMS_TYPE.true)
          (sym (word_in bytes 4 c.from_be_bytes-then-from_be_bytes-eq-LMS_TYPE.result _ c.in_ok-one_time_type.one_time_type.now lms.1 ots.0 c.from_be_bytes-then-from_be_bytes-eq-LMS_TYPE.ensures) ∙ c.if-from_be_bytes-eq-ONE_TIME_TYPE.true),
      (part_in bytes 8 16 _ c.in_ok-id.id.now at8 id.0, root.same ∙ at24 ∙ sym (between_to_end bytes 24 56 (omega arith))),
    )
