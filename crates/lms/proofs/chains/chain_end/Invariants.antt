use Rattle.std.proofs.Common.{◌≡◌, ◌-◌, length}
use Rattle.lms.specs.Chains.{steps}
use Rattle.lms.proofs.chains.chain_end.Given as goal

-- the steps that are left lead to where all of them do
abbrev pub invariant-loop-j : goal.invariant-loop-j
invariant-loop-j l =
    (length l.value ≡ 32) × (steps l.front (255 - l.j) l.j l.value ≡ steps l.front (255 - l.first) l.first l.initial.value)
