-- What a store's fault stands for.
use Rattle.refusals.specs.declared.Layer.TheVariants.{Store}
use Rattle.refusals.specs.declared.Cause.TheVariants as cause
use Rattle.refusals.specs.Reading.{Reading, found}
use Rattle.marks.specs.declared.fault.StoreFault.{StoreFault}
use Rattle.marks.specs.declared.fault.StoreFault.TheVariants.{Layout}

abbrev pub store_reading : StoreFault → Reading
store_reading Layout = found Store cause.Layout 0
