-- The tree of 2,047 nodes: node 1 is the root, and the children of node r are 2r and 2r + 1.
use Rattle.std.specs.Prelude.{ℕ, zero, suc, ◌/◌, ◌%◌, cond, List, take, drop, ◌==◌}
use Rattle.lms.specs.Hashes.{node}

-- the node above node `r`, from its value and its sibling's: an odd node is the right child
abbrev pub parent : List ℕ → ℕ → List ℕ → List ℕ → List ℕ
parent I r value sibling = cond (r % 2 == 1) (node I (r / 2) sibling value) (node I (r / 2) value sibling)

-- `n` levels up from node `r`, along a path of siblings that stand end to end
unfoldable pub climbed : List ℕ → ℕ → ℕ → List ℕ → List ℕ → List ℕ
climbed I zero r value path = value
climbed I (suc n) r value path = climbed I n (r / 2) (parent I r value (take 32 path)) (drop 32 path)
