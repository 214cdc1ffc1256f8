-- What a checker's fault stands for.
use Rattle.refusals.specs.declared.Layer.TheVariants.{Checker}
use Rattle.refusals.specs.declared.Cause.TheVariants as cause
use Rattle.refusals.specs.Reading.{Reading, found}
use Rattle.seals.specs.declared.fault.CheckerFault.{CheckerFault}
use Rattle.seals.specs.declared.fault.CheckerFault.TheVariants.{Layout}

abbrev pub checker_reading : CheckerFault → Reading
checker_reading Layout = found Checker cause.Layout 0
