-- The steps of accepting a certificate, with the loop over its entries. Assumes nothing.
use Rattle.std.proofs.Common.{◌≡◌, ℕ, zero, suc, ◌+◌, ◌<◌, ◌≤◌, List, [], ◌∷◌, length, get_or, Ok, sym, arith}
use Rattle.certificate.specs.declared.table.Entry.{Entry}
use Rattle.certificate.specs.Table.{Rising}
use Rattle.certificate.specs.Contents.{Contents}
use Rattle.certificate.specs.Layout.{read_certificate}
use Rattle.certificate.proofs.Accepted.{accepted as read-accepted}

pub number_below : (boxes least : ℕ) (es : List Entry) (i : ℕ) (o : Entry) → i < length es → Rising boxes least es → (get_or es i o).signer.number < boxes
number_below boxes least [] i o h r = absurd (omega arith)
number_below boxes least (e ∷ es) zero o h r = r.1
number_below boxes least (e ∷ es) (suc i) o h r = number_below boxes (e.signer.number + 1) es i o (omega arith) r.2

pub rising_wider : (boxes more least : ℕ) (es : List Entry) → boxes ≤ more → Rising boxes least es → Rising more least es
rising_wider boxes more least [] h r = tt
rising_wider boxes more least (e ∷ es) h r =
    let b = r.1 in
    (r.0, omega arith, rising_wider boxes more (e.signer.number + 1) es h r.2)

pub read_rising : (boxes : ℕ) (bs : List ℕ) (k : Contents) → boxes ≤ 13 → Ok k ≡ read_certificate boxes bs → Rising 13 0 k.entries
read_rising boxes bs k h e = rising_wider boxes 13 0 k.entries h (read-accepted boxes bs k (sym e)).rising
