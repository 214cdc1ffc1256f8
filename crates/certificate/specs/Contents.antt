-- What a certificate value says.
use Rattle.std.specs.Prelude.{List, take}
use Rattle.docket.specs.declared.Docket.{Docket}
use Rattle.certificate.specs.declared.table.Entry.{Entry}
use Rattle.certificate.specs.declared.value.Certificate.{Certificate}

-- the docket, and an entry for each seal
pub record Contents : Type 0 where
  pub docket : Docket
  pub entries : List Entry

abbrev pub contents : Certificate → Contents
contents c = record { docket = c.docket; entries = take c.count c.table }
