-- Which certificates a box accepts, and which dockets it then admits.
use Rattle.std.specs.Prelude.{ℕ, ◌+◌, Bool, cond, not, List, [], ◌∷◌, length, Some, None, Ok, Err, Option, Result, ◌==◌, nat_lt}
use Rattle.std.specs.List.{between}
use Rattle.std.specs.Str.{bytes_eq}
use Rattle.refusals.specs.Reading.{Reading, found, and_then, within}
use Rattle.refusals.specs.declared.Layer.TheVariants as layer
use Rattle.refusals.specs.declared.Cause.{Cause}
use Rattle.refusals.specs.declared.Cause.TheVariants as cause
use Rattle.docket.specs.declared.Docket.{Docket}
use Rattle.docket.specs.Layout.{encoded}
use Rattle.certificate.specs.declared.table.Entry.{Entry}
use Rattle.certificate.specs.Contents.{Contents}
use Rattle.certificate.specs.Layout.{read_certificate}
use Rattle.seals.specs.Texts.{box_party, countersign_text}
use Rattle.settling.specs.declared.account.Account.{Account}
use Rattle.settling.specs.Window.{cell}

-- a box refuses
abbrev pub refused : {T : Type 0} → Cause → ℕ → Result T Reading
refused why place = Err (found layer.Box why place)

-- the seal of an entry, in the certificate's bytes
abbrev pub seal_of : List ℕ → Entry → List ℕ
seal_of bs e = between e.place (e.place + e.signer.size) bs

-- whether an entry's box sealed the docket
abbrev pub sealed : (ℕ → List ℕ → List ℕ → Bool) → List ℕ → Docket → Entry → Bool
sealed good bs d e = good (box_party e.signer.number) (countersign_text e.signer.number (encoded d)) (seal_of bs e)

-- the offset of the first entry whose seal is not good; the first entry's is `at`
abbrev pub first_bad : (ℕ → List ℕ → List ℕ → Bool) → List ℕ → Docket → ℕ → List Entry → Option ℕ
first_bad good bs d at [] = None
first_bad good bs d at (e ∷ es) = cond (sealed good bs d e) (first_bad good bs d (at + 8) es) (Some at)

abbrev pub unless_bad : {T : Type 0} → T → Option ℕ → Result T Reading
unless_bad x None = Ok x
unless_bad x (Some place) = refused cause.BadSeal place

-- of this pool, with enough entries, and every seal good
abbrev pub judged_contents : (ℕ → List ℕ → List ℕ → Bool) → ℕ → ℕ → List ℕ → Contents → Result Docket Reading
judged_contents good pool needed bs k =
    cond (not (k.docket.pool == pool)) (refused cause.AnotherPool 0)
    (cond (nat_lt (length k.entries) needed) (refused cause.TooFewEntries 0)
    (unless_bad k.docket (first_bad good bs k.docket 4 k.entries)))

-- the docket of a certificate that a box accepts
unfoldable pub accepted : (ℕ → List ℕ → List ℕ → Bool) → ℕ → ℕ → ℕ → List ℕ → Result Docket Reading
accepted good pool boxes needed bs =
    and_then (within layer.Box 0 (read_certificate boxes bs)) (judged_contents good pool needed bs)

-- a cell that holds a docket already
abbrev pub occupied : Docket → Option Docket → Result Docket Reading
occupied d None = Ok d
occupied d (Some w) = cond (bytes_eq (encoded w) (encoded d)) (refused cause.AlreadyWaiting 0) (refused cause.OtherWaiting 0)

-- a docket that may wait: its number is one of the four from the account's next on, and its cell is free
abbrev pub admitted : Account → Docket → Result Docket Reading
admitted a d =
    cond (nat_lt d.number a.next) (refused cause.BelowNext 0)
    (cond (nat_lt (a.next + 3) d.number) (refused cause.TooFarAhead 0)
    (occupied d (cell a d.number)))
