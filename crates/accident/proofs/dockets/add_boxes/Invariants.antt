use Rattle.std.proofs.Common.{◌≡◌, ◌++◌, vec_items}
use Rattle.accident.specs.Story.{box_entries}
use Rattle.accident.proofs.dockets.add_boxes.Given as goal

abbrev pub invariant-loop-number : goal.invariant-loop-number
invariant-loop-number l = vec_items l.bytes ≡ vec_items l.initial.bytes ++ box_entries l.number l.docket
