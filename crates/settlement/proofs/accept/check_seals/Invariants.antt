use Rattle.std.proofs.Common.{◌≡◌, ◌+◌, ◌*◌, drop}
use Rattle.settlement.specs.Accept.{first_bad}
use Rattle.settlement.proofs.accept.check_seals.Given as goal

abbrev pub invariant-loop-i : goal.invariant-loop-i
invariant-loop-i g l =
    first_bad (g.C.Checker.good l.checker) l.bytes l.docket (4 + 8 * l.i) (drop l.i l.entries)
    ≡ first_bad (g.C.Checker.good l.checker) l.bytes l.docket 4 l.entries
