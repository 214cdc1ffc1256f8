-- How a certificate's faults are read. A docket's fault stands whole inside.
use Rattle.refusals.specs.Reading.{Reading, found, around}
use Rattle.refusals.specs.declared.Layer.TheVariants as layer
use Rattle.refusals.specs.declared.Cause.TheVariants as cause
use Rattle.docket.specs.Faults.{docket_reading}
use Rattle.certificate.specs.declared.faults.CertificateFault.{CertificateFault}
use Rattle.certificate.specs.declared.faults.CertificateFault.TheVariants.{Malformed, ShortBuffer, Docket}

abbrev pub certificate_reading : CertificateFault → Reading
certificate_reading (Malformed place) = found layer.Certificate cause.Malformed place
certificate_reading ShortBuffer = found layer.Certificate cause.ShortBuffer 0
certificate_reading (Docket inner) = around layer.Certificate inner.place (docket_reading inner.fault)
