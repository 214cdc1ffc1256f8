-- Levels of a path.
use Rattle.std.proofs.Common.{◌≡◌, ℕ, suc, ◌+◌, ◌-◌, ◌*◌, ◌/◌, ◌<◌, ◌≤◌, List, take, drop, refl, arith}
use Rattle.lms.specs.Tree.{parent, climbed}
use Rattle.std.proofs.lemmas.List.{drop-drop}

climbed_suc : (I : List ℕ) (n r : ℕ) (value path : List ℕ) → climbed I (suc n) r value path ≡ climbed I n (r / 2) (parent I r value (take 32 path)) (drop 32 path)
unfolding climbed
climbed_suc I n r value path = refl

pub climbed_more : (I path sibling value above : List ℕ) (n i r : ℕ) → i < n → sibling ≡ take 32 (drop (32 * i) path) → above ≡ parent I r value sibling →
    climbed I (n - (i + 1)) (r / 2) above (drop (32 * (i + 1)) path) ≡ climbed I (n - i) r value (drop (32 * i) path)
climbed_more I path sibling value above n i r lt e a =
    let left : n - i ≡ suc (n - (i + 1)) = omega arith in
    let next : 32 * i + 32 ≡ 32 * (i + 1) = omega arith in
    rw (left, climbed_suc, drop-drop, next, ← e, ← a) refl

pub climbed_all : (I path value : List ℕ) (n i r : ℕ) → n ≤ i → climbed I (n - i) r value (drop (32 * i) path) ≡ value
unfolding climbed
climbed_all I path value n i r h =
    let none : n - i ≡ 0 = omega arith in
    rw none refl
