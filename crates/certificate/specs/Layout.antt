-- The certificate's bytes: a head (count, table of entries, docket), then the seals end to end.
use Rattle.std.specs.Prelude.{◌≡◌, ℕ, ◌+◌, ◌*◌, ◌≤◌, cond, not, ◌||◌, List, [], ◌∷◌, ◌++◌, map, length, take, drop, Ok, Err, Result, ◌==◌, nat_lt, slice_index}
use Rattle.std.specs.List.{between}
use Rattle.refusals.specs.Reading.{Reading, found, and_then, if_ok, within}
use Rattle.refusals.specs.declared.Layer.TheVariants as layer
use Rattle.refusals.specs.declared.Cause.TheVariants as cause
use Rattle.docket.specs.declared.Docket.{Docket}
use Rattle.docket.specs.Layout.{encoded, read_docket}
use Rattle.certificate.specs.Contents.{Contents, contents}
use Rattle.certificate.specs.Faults.{certificate_reading}
use Rattle.certificate.specs.Table.{malformed, read_rows, seals_end, Rising, placed, rows}
use Rattle.certificate.specs.declared.faults.CertificateFault.{CertificateFault}
use Rattle.certificate.specs.declared.value.Certificate.{Certificate}
use Rattle.certificate.specs.declared.table.Entry.{Entry}
use Rattle.certificate.specs.declared.table.Signer.{Signer}

-- an answer of the reader, by what the certificate says and by its fault's reading
abbrev pub seen : Result Certificate CertificateFault → Result Contents Reading
seen (Ok c) = Ok (contents c)
seen (Err e) = Err (certificate_reading e)

-- the same of the table's m entries, with where the last seal ends
abbrev pub listed : ℕ → Result (List Entry × ℕ) CertificateFault → Result (List Entry) Reading
listed m (Ok t) = Ok (take m t.0)
listed m (Err e) = Err (certificate_reading e)

-- the count m, byte 0 of a certificate of `total` bytes, if the head is whole and its next bytes are zero
abbrev pub read_count : ℕ → ℕ → List ℕ → Result ℕ Reading
read_count total m head =
    cond (nat_lt total 4) (malformed total)
    (cond (m == 0 || nat_lt 13 m) (malformed 0)
    (cond (not (slice_index head 1 == 0) || (not (slice_index head 2 == 0) || not (slice_index head 3 == 0))) (malformed 1)
    (cond (nat_lt total (84 + 8 * m)) (malformed total)
    (Ok m))))

-- the docket behind the table
abbrev pub read_inner : ℕ → List ℕ → Result Docket Reading
read_inner at head = within layer.Certificate at (read_docket (between at (at + 80) head))

-- what is read, if the seals end where the certificate does
abbrev pub ending : ℕ → ℕ → Contents → Result Contents Reading
ending total end k = cond (total == end) (Ok k) (malformed total)

-- the head, of a certificate of `total` bytes; m is byte 0
unfoldable pub read_head : ℕ → ℕ → ℕ → List ℕ → Result Contents Reading
read_head boxes total m head =
    and_then (read_count total m head)
    (λ _. and_then (read_rows boxes m 4 0 (84 + 8 * m) head)
    (λ es. and_then (read_inner (4 + 8 * m) head)
    (λ d. ending total (seals_end (84 + 8 * m) es) (record { docket = d; entries = es }))))

-- the reader, for a pool of so many boxes
unfoldable pub read_certificate : ℕ → List ℕ → Result Contents Reading
read_certificate boxes bs = read_head boxes (length bs) (slice_index bs 0) (take (84 + 8 * slice_index bs 0) bs)

-- what an accepted certificate is
pub record Accepted (boxes : ℕ) (bs : List ℕ) (k : Contents) : Type 0 where
  pub some : 1 ≤ length k.entries
  pub most : length k.entries ≤ 13
  pub rising : Rising boxes 0 k.entries
  pub docket : read_docket (between (4 + 8 * length k.entries) (84 + 8 * length k.entries) bs) ≡ Ok k.docket
  pub ends : length bs ≡ seals_end (84 + 8 * length k.entries) k.entries

-- the head that a writer makes
unfoldable pub head_of : Docket → List Signer → List ℕ
head_of d ss = (length ss ∷ 0 ∷ 0 ∷ 0 ∷ []) ++ rows (84 + 8 * length ss) ss ++ encoded d

-- the bytes of a certificate, by what it says and its seals
abbrev pub laid_out : Contents → List ℕ → List ℕ
laid_out k seals = head_of k.docket (map (λ e. e.signer) k.entries) ++ seals

-- the contents of what is written for these signers
abbrev pub contents_of : Docket → List Signer → Contents
contents_of d ss = record { docket = d; entries = placed (84 + 8 * length ss) ss }

-- how many bytes are written, if there is room
abbrev pub if_room : ℕ → ℕ → Result ℕ Reading
if_room room total = cond (nat_lt room total) (Err (found layer.Certificate cause.ShortBuffer 0)) (Ok total)

-- the writer: it refuses as the reader of what it would write, then for a short buffer
unfoldable pub write_answer : ℕ → Docket → List Signer → List ℕ → List ℕ → Result ℕ Reading
write_answer boxes d ss seals out =
    and_then (read_head boxes (84 + 8 * length ss + length seals) (length ss) (head_of d ss))
    (λ _. if_room (length out) (84 + 8 * length ss + length seals))

unfoldable pub write_buffer : ℕ → Docket → List Signer → List ℕ → List ℕ → List ℕ
write_buffer boxes d ss seals out =
    if_ok (write_answer boxes d ss seals out) (λ total. head_of d ss ++ seals ++ drop total out) out
