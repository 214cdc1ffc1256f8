-- How a box's faults are read. A certificate's fault stands whole inside, and so does a docket's.
use Rattle.refusals.specs.Reading.{Reading, found, around}
use Rattle.refusals.specs.declared.Layer.TheVariants as layer
use Rattle.refusals.specs.declared.Cause.TheVariants as cause
use Rattle.docket.specs.Faults.{docket_reading}
use Rattle.certificate.specs.Faults.{certificate_reading}
use Rattle.settlement.specs.declared.faults.BoxFault.{BoxFault}
use Rattle.settlement.specs.declared.faults.BoxFault.TheVariants.{Certificate, Docket, AnotherPool, YardSeal, BelowNext, AboveNext, OtherMarked, NotCovered, TooFewEntries, BadSeal, TooFarAhead, AlreadyWaiting, OtherWaiting, OtherOwner, WriteFailed, NotMarked, OutOfRange}

abbrev pub box_reading : BoxFault → Reading
box_reading (Certificate inner) = around layer.Box 0 (certificate_reading inner)
box_reading (Docket inner) = around layer.Box 0 (docket_reading inner)
box_reading AnotherPool = found layer.Box cause.AnotherPool 0
box_reading YardSeal = found layer.Box cause.YardSeal 0
box_reading BelowNext = found layer.Box cause.BelowNext 0
box_reading AboveNext = found layer.Box cause.AboveNext 0
box_reading OtherMarked = found layer.Box cause.OtherMarked 0
box_reading (NotCovered place) = found layer.Box cause.NotCovered place
box_reading TooFewEntries = found layer.Box cause.TooFewEntries 0
box_reading (BadSeal place) = found layer.Box cause.BadSeal place
box_reading TooFarAhead = found layer.Box cause.TooFarAhead 0
box_reading AlreadyWaiting = found layer.Box cause.AlreadyWaiting 0
box_reading OtherWaiting = found layer.Box cause.OtherWaiting 0
box_reading OtherOwner = found layer.Box cause.OtherOwner 0
box_reading WriteFailed = found layer.Box cause.WriteFailed 0
box_reading NotMarked = found layer.Box cause.NotMarked 0
box_reading OutOfRange = found layer.Box cause.OutOfRange 0
