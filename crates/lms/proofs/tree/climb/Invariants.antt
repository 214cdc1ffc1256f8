use Rattle.std.proofs.Common.{◌≡◌, ◌-◌, ◌*◌, length, drop}
use Rattle.lms.specs.Tree.{climbed}
use Rattle.lms.proofs.tree.climb.Given as goal

-- the siblings that are left lead to where all of them do
abbrev pub invariant-loop-sibling : goal.invariant-loop-sibling
invariant-loop-sibling l =
    (length l.value ≡ 32) ×
    (climbed l.first.id.now (10 - l.sibling-index) l.number l.value (drop (32 * l.sibling-index) l.path) ≡ climbed l.first.id.now 10 l.initial.number l.initial.value l.path)
