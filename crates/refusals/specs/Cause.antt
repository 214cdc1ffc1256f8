-- Why something is refused, and the number under which that is told.
use Rattle.std.specs.Prelude.{◌≡◌, ℕ, ◌<◌, ◌⊎◌, Result, MatchResult}
use Rattle.refusals.specs.declared.Cause.{Cause}
use Rattle.refusals.specs.declared.Cause.TheVariants.{Malformed, AnotherPool, YardSeal, BelowNext, AboveNext, OtherMarked, NotCovered, TooFewEntries, BadSeal, TooFarAhead, AlreadyWaiting, OtherWaiting, OtherOwner, WriteFailed, NotMarked, OutOfRange, Overfull, Layout, ShortBuffer}
use Rattle.refusals.specs.declared.UnknownCause.{UnknownCause}

-- the number of a cause
abbrev pub cause_number : Cause → ℕ
cause_number Malformed = 1
cause_number AnotherPool = 2
cause_number YardSeal = 3
cause_number BelowNext = 4
cause_number AboveNext = 5
cause_number OtherMarked = 6
cause_number NotCovered = 7
cause_number TooFewEntries = 8
cause_number BadSeal = 9
cause_number TooFarAhead = 10
cause_number AlreadyWaiting = 11
cause_number OtherWaiting = 12
cause_number OtherOwner = 13
cause_number WriteFailed = 14
cause_number NotMarked = 15
cause_number OutOfRange = 16
cause_number Overfull = 17
cause_number Layout = 18
cause_number ShortBuffer = 19

-- the cause of this number, or an error with a number that no cause has
abbrev pub IsNumbered : ℕ → Result Cause UnknownCause → Type 0
IsNumbered number r = MatchResult r (λ cause. cause_number cause ≡ number) (λ e. (e.0 ≡ number) × ((number ≡ 0) ⊎ (19 < number)))
