use Rattle.std.proofs.Common.{◌≡◌, length, sym, refl, ◌∙◌, ◌<◌, ◌≤◌, arith}
use Rattle.lms.specs.Verify.{leaf_number}
use Rattle.lms.proofs.Parsed.{next_in, part_in, word_in, is_seal-true, other_one_time_type, other_tree_type, no_leaf}
use Rattle.std.proofs.lemmas.Slice.{between_to_end}
use Rattle.lms.proofs.verify.Seal.parse.Goals.{else-from_be_bytes-eq-ONE_TIME_TYPE-via-then-from_be_bytes-eq-ONE_TIME_TYPE+then-from_be_bytes-eq-LMS_TYPE+else-leaf-lt-LEAVES, else-from_be_bytes-eq-ONE_TIME_TYPE-via-then-from_be_bytes-eq-ONE_TIME_TYPE+else-from_be_bytes-eq-LMS_TYPE, else-from_be_bytes-eq-ONE_TIME_TYPE-via-else-from_be_bytes-eq-ONE_TIME_TYPE}
use Rattle.lms.proofs.verify.Seal.parse.Goals as goal

pub returns-then-leaf-lt-LEAVES : goal.returns-then-leaf-lt-LEAVES
returns-then-leaf-lt-LEAVES c =
    let bytes = c.args.bytes.now in
    let number = c.in_ok-number.ensures.cases in
    let ots = c.in_ok-one_time_type.ensures.cases in
    let randomizer = c.in_ok-randomizer.ensures.cases in
    let values = c.in_ok-values.ensures.cases in
    let tree = c.in_ok-tree_type.ensures.cases in
    let path = c.in_ok-path.ensures.cases in
    let long : length bytes ≡ 1452 = omega (arith, number.2, ots.2, randomizer.2, values.2, tree.2, path.long) in
    let at8 = next_in bytes 4 4 _ c.in_ok-one_time_type.rest.now number.1 ots.1 in
    let at40 = next_in bytes 8 32 _ c.in_ok-randomizer.rest.now at8 randomizer.1 in
    let at1128 = next_in bytes 40 1088 _ c.in_ok-values.rest.now at40 values.1 in
    let at1132 = next_in bytes 1128 4 _ c.in_ok-tree_type.rest.now at1128 tree.1 in
    let leaf = word_in bytes 0 c.from_be_bytes-leaf.result bytes c.in_ok-number.number.now refl number.0 c.from_be_bytes-leaf.ensures in
    let low : c.from_be_bytes-leaf.result < 1024 = omega arith in
    let below : leaf_number bytes < 1024 = omega arith in (
      is_seal-true bytes long
          (sym (word_in bytes 4 c.from_be_bytes.result _ c.in_ok-one_time_type.one_time_type.now number.1 ots.0 c.from_be_bytes.ensures) ∙ c.if-from_be_bytes-eq-ONE_TIME_TYPE.true)
          (sym (word_in bytes 1128 c.from_be_bytes-then-from_be_bytes-eq-ONE_TIME_TYPE.result _ c.in_ok-tree_type.tree_type.now at1128 tree.0 c.from_be_bytes-then-from_be_bytes-eq-ONE_TIME_TYPE.ensures) ∙ c.if-from_be_bytes-eq-LMS_TYPE.true)
          below,
      (
        low,
        (
          leaf,
          part_in bytes 8 32 _ c.in_ok-randomizer.randomizer.now at8 randomizer.0,
          part_in bytes 40 1088 _ c.in_ok-values.values.now at40 values.0,
          path.same ∙ at1132 ∙ sym (between_to_end bytes 1132 1452 (omega arith)),
        ),
      ),
    )

pub returns-else-from_be_bytes-eq-ONE_TIME_TYPE : goal.returns-else-from_be_bytes-eq-ONE_TIME_TYPE
returns-else-from_be_bytes-eq-ONE_TIME_TYPE c =
    let bytes = c.args.bytes.now in
    let number = c.in_ok-number.ensures.cases in
    let ots = c.in_ok-one_time_type.ensures.cases in
    let tree = c.in_ok-tree_type.ensures.cases in
    let at8 = next_in bytes 4 4 _ c.in_ok-one_time_type.rest.now number.1 ots.1 in
    let at40 = next_in bytes 8 32 _ c.in_ok-randomizer.rest.now at8 c.in_ok-randomizer.ensures.cases.1 in
    let at1128 = next_in bytes 40 1088 _ c.in_ok-values.rest.now at40 c.in_ok-values.ensures.cases.1 in
    let leaf = word_in bytes 0 c.from_be_bytes-leaf.result bytes c.in_ok-number.number.now refl number.0 c.from_be_bytes-leaf.ensures in
    let one_time = word_in bytes 4 c.from_be_bytes.result _ c.in_ok-one_time_type.one_time_type.now number.1 ots.0 c.from_be_bytes.ensures in
    elim c.else-from_be_bytes-eq-ONE_TIME_TYPE.branch [
      | else-from_be_bytes-eq-ONE_TIME_TYPE-via-then-from_be_bytes-eq-ONE_TIME_TYPE+then-from_be_bytes-eq-LMS_TYPE+else-leaf-lt-LEAVES w ↦
          let high : 1024 ≤ leaf_number bytes = omega (arith, leaf, w.if-leaf-lt-LEAVES.false) in no_leaf bytes high
      | else-from_be_bytes-eq-ONE_TIME_TYPE-via-then-from_be_bytes-eq-ONE_TIME_TYPE+else-from_be_bytes-eq-LMS_TYPE w ↦
          let word = word_in bytes 1128 w.from_be_bytes-then-from_be_bytes-eq-ONE_TIME_TYPE.result _ c.in_ok-tree_type.tree_type.now at1128 tree.0 w.from_be_bytes-then-from_be_bytes-eq-ONE_TIME_TYPE.ensures in
          other_tree_type bytes (λ e. w.if-from_be_bytes-eq-LMS_TYPE.false (word ∙ e))
      | else-from_be_bytes-eq-ONE_TIME_TYPE-via-else-from_be_bytes-eq-ONE_TIME_TYPE w ↦ other_one_time_type bytes (λ e. w.if-from_be_bytes-eq-ONE_TIME_TYPE.false (one_time ∙ e))
    ]
