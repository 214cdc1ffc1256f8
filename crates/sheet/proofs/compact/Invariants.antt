use Rattle.sheet.proofs.Keeping.{Keeps}
use Rattle.sheet.proofs.compact.Given as goal

abbrev pub invariant-loop-i : goal.invariant-loop-i
invariant-loop-i l = Keeps l.count l.initial.bytes l.bytes l.place l.i
