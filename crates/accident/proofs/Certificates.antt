-- The certificate that votes make. Assumes nothing.
use Rattle.std.proofs.Common.{◌≡◌, ℕ, List, Err, sym}
use Rattle.refusals.specs.Reading.{Reading}
use Rattle.docket.specs.declared.Docket.{Docket}
use Rattle.certificate.specs.Layout.{write_answer, write_buffer}
use Rattle.certificate.specs.declared.table.Signer.{Signer}

-- where the writer refuses, the buffer is as it was
pub buffer_kept :
    (boxes : ℕ) (d : Docket) (ss : List Signer) (seals out : List ℕ) (r : Reading) → Err r ≡ write_answer boxes d ss seals out → write_buffer boxes d ss seals out ≡ out
unfolding write_buffer
buffer_kept boxes d ss seals out r e = rw (sym e)
