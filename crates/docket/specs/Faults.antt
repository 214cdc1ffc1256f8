-- How a docket's faults are read.
use Rattle.refusals.specs.Reading.{Reading, found}
use Rattle.refusals.specs.declared.Layer.TheVariants as layer
use Rattle.refusals.specs.declared.Cause.TheVariants as cause
use Rattle.docket.specs.declared.faults.DocketFault.{DocketFault}
use Rattle.docket.specs.declared.faults.DocketFault.TheVariants.{Malformed, ShortBuffer}

abbrev pub docket_reading : DocketFault → Reading
docket_reading (Malformed place) = found layer.Docket cause.Malformed place
docket_reading ShortBuffer = found layer.Docket cause.ShortBuffer 0
