-- The story: two dockets under one number, the seals over them, and the boxes that they are handed to.
use Rattle.std.specs.Prelude.{◌≡◌, ℕ, zero, suc, ◌/◌, Bool, cond, List, [], ◌∷◌, ◌++◌, map, length, take, replicate, position, All, Some, None, Ok, Err, Option, Result, nat_lt, slice_index_or, slice_set}
use Rattle.std.specs.Simd.{first_chunks}
use Rattle.refusals.specs.Reading.{Reading, and_then, if_ok}
use Rattle.docket.specs.declared.Docket.{Docket}
use Rattle.docket.specs.Layout.{encoded}
use Rattle.seals.specs.Roll.{is_of}
use Rattle.seals.specs.Texts.{box_party}
use Rattle.certificate.specs.Layout.{write_answer, write_buffer}
use Rattle.certificate.specs.declared.table.Signer.{Signer}
use Rattle.marks.specs.Outcomes.{ends}
use Rattle.marks.specs.Table.{owner_in, mark_in, row_in}
use Rattle.marks.specs.declared.outcome.Outcome.{Outcome}
use Rattle.marks.specs.declared.outcome.Outcome.TheVariants.{FailsOld, FailsNew}
use Rattle.book.specs.Pallets.{pallet_valid, pallet_next, pallet_answer}
use Rattle.settlement.specs.Box.{BoxState, box_of, started_box, restart_box, take_box, next_number}
use Rattle.pool.specs.Ready.{StoreState, SlipState, Finding, finding, slip_after, store_after, box_after, released_text}
use Rattle.ready.specs.Seen.{store_of}
use Rattle.workbench.specs.Bench.{only_docket, roll_entry}
use Rattle.accident.specs.declared.dockets.Offer.{Offer}
use Rattle.accident.specs.declared.boxes.NumberedBox.{NumberedBox}
use Rattle.accident.specs.declared.boxes.Report.{Report}
use Rattle.accident.specs.declared.boxes.Votes.{Votes}
use Rattle.accident.specs.declared.FourBoxes.{FourBoxes}

-- the docket of number 1 that moves all 480 pallets from account 0
abbrev pub all_pallets : ℕ → Docket
all_pallets to = only_docket 0 to 480

-- account 0 opens with all pallets
abbrev pub opening_balances : List ℕ
opening_balances = 480 ∷ replicate 63 0

-- a roll entry: a yard sealed a docket of its account
abbrev pub yard_entry : Docket → List ℕ
yard_entry d = d.account ∷ 80 ∷ encoded d ++ (0 ∷ 0 ∷ [])

-- boxes from 0 on, as many as are said, over one docket
abbrev pub box_entries : ℕ → Docket → List ℕ
box_entries zero d = []
box_entries (suc k) d = box_entries k d ++ roll_entry k d

-- the yard over both dockets, then four boxes over the first, and over the second
abbrev pub story_roll : Docket → Docket → List ℕ
story_roll first second = ((yard_entry first ++ yard_entry second) ++ box_entries 4 first) ++ box_entries 4 second

-- the index of a box's first entry over a text
abbrev pub first_over : List ℕ → ℕ → List ℕ → Option ℕ
first_over roll number text = position (λ entry. is_of entry (box_party number) text) (first_chunks 84 (length roll / 84) roll)

-- an index that fits a byte
abbrev pub in_byte : Option ℕ → Option ℕ
in_byte None = None
in_byte (Some index) = cond (nat_lt index 256) (Some index) None

-- the same, if it fits a byte
abbrev pub seal_over : List ℕ → ℕ → List ℕ → Option ℕ
seal_over roll number text = in_byte (first_over roll number text)

-- a box of the story with its store, as its calls see both
pub record Stand : Type 0 where
  pub box : BoxState (List ℕ)
  pub store : StoreState

abbrev pub stand_of : {C : Type 0} → NumberedBox C → Stand
stand_of n = record {
  box = box_of (λ b. b.opening) (λ b. b.kept) (λ b. b.current) n.ready.cold;
  store = store_of owner_in mark_in row_in n.ready.store;
}

-- its checker
abbrev pub checker_of : {C : Type 0} → NumberedBox C → C
checker_of n = n.ready.cold.checker

-- set up, beside an unmarked store with a row of outcomes
abbrev pub started : ℕ → List Outcome → Stand
started number row = record {
  box = started_box 7 number 1 opening_balances;
  store = record { owner = number; mark = λ _. None; row = map ends row };
}

-- power is cut, and comes back
abbrev pub restarted : Stand → Stand
restarted s = record { box = restart_box s.box; store = s.store }

-- what a box finds of an offered docket, the slip or refusal that it answers with, and where it stands then
abbrev pub found_of : (ℕ → List ℕ → List ℕ → Bool) → Stand → Offer → Finding
found_of good s offer = finding pallet_valid pallet_next good s.box s.store (encoded offer.docket) (0 ∷ offer.seal ∷ [])

abbrev pub slip_over : (ℕ → List ℕ → List ℕ → Bool) → Stand → Offer → Result SlipState Reading
slip_over good s offer = slip_after s.box s.store (found_of good s offer)

abbrev pub asked : (ℕ → List ℕ → List ℕ → Bool) → Stand → Offer → Stand
asked good s offer = record { box = box_after s.box (found_of good s offer); store = store_after s.store (found_of good s offer) }

-- the text that a slip has released
abbrev pub text_for : Stand → SlipState → Result (List ℕ) Reading
text_for s slip = released_text s.box s.store slip

-- the seals that a yard has gathered, with that of one of boxes 0 to 3, and after a box releases a text or refuses
abbrev pub counted_in : List (Option ℕ) → ℕ → Option ℕ → List (Option ℕ)
counted_in seals number None = seals
counted_in seals number (Some seal) = cond (nat_lt number 4) (slice_set seals number (Some seal)) seals

abbrev pub gathered : List ℕ → ℕ → List (Option ℕ) → Result (List ℕ) Reading → List (Option ℕ)
gathered roll number seals (Ok text) = counted_in seals number (seal_over roll number text)
gathered roll number seals (Err r) = seals

-- the text that a box answers an offer with, released at once, and the seals that are gathered then
abbrev pub answered : (ℕ → List ℕ → List ℕ → Bool) → Stand → Offer → Result (List ℕ) Reading
answered good s offer = and_then (slip_over good s offer) (text_for (asked good s offer))

-- the votes with other seals, and those after a box has released a text or refused
abbrev pub with_seals : Votes → List (Option ℕ) → Votes
with_seals v seals = record { offer = v.offer; roll = v.roll; seals = seals }

abbrev pub votes_after : ℕ → Votes → Result (List ℕ) Reading → Votes
votes_after number v text = with_seals v (gathered v.roll.now number v.seals text)

abbrev pub voted : (ℕ → List ℕ → List ℕ → Bool) → ℕ → Stand → Votes → Votes
voted good number s v = votes_after number v (answered good s v.offer)

-- the same of a box that is cut with a slip in hand, and releases it after it has come back
abbrev pub cut_in_hand : (ℕ → List ℕ → List ℕ → Bool) → Stand → Offer → Stand
cut_in_hand good s offer = if_ok (slip_over good s offer) (λ _. restarted (asked good s offer)) (asked good s offer)

abbrev pub voted_late : (ℕ → List ℕ → List ℕ → Bool) → ℕ → Stand → Votes → Votes
voted_late good number s v = votes_after number v (and_then (slip_over good s v.offer) (text_for (restarted (asked good s v.offer))))

-- the signers and the seals of the first `count` boxes, of those that have sealed
abbrev pub signer_of : ℕ → Option ℕ → List Signer
signer_of number None = []
signer_of number (Some seal) = record { number = number; size = 2 } ∷ []

abbrev pub seal_of : Option ℕ → List ℕ
seal_of None = []
seal_of (Some seal) = 0 ∷ seal ∷ []

abbrev pub signers_in : ℕ → List (Option ℕ) → List Signer
signers_in zero seals = []
signers_in (suc k) seals = signers_in k seals ++ signer_of k (slice_index_or seals k None)

abbrev pub seals_in : ℕ → List (Option ℕ) → List ℕ
seals_in zero seals = []
seals_in (suc k) seals = seals_in k seals ++ seal_of (slice_index_or seals k None)

-- the certificate that the votes make: its length or the refusal, and the buffer then
abbrev pub certified_answer : Votes → List ℕ → Result ℕ Reading
certified_answer v out = write_answer 4 v.offer.docket (signers_in 4 v.seals) (seals_in 4 v.seals) out

abbrev pub certified_buffer : Votes → List ℕ → List ℕ
certified_buffer v out = write_buffer 4 v.offer.docket (signers_in 4 v.seals) (seals_in 4 v.seals) out

-- its bytes
abbrev pub certificate_of : Votes → List ℕ
certificate_of v = if_ok (certified_answer v (replicate 256 0)) (λ n. take n (certified_buffer v (replicate 256 0))) []

-- a certificate is taken
abbrev pub took : (ℕ → List ℕ → List ℕ → Bool) → Stand → List ℕ → Stand
took good s bytes = record { box = take_box pallet_valid pallet_next good s.box bytes; store = s.store }

-- what a box reports
abbrev pub report_of : Stand → Report
report_of s = record {
  balances = map (pallet_answer s.box.current) (0 ∷ 1 ∷ 2 ∷ []);
  next = next_number s.box 0;
}

-- the votes for the first docket: those of boxes 0, 1 and 3, and then of box 2, which is cut with its slip in hand
abbrev pub voted_at_cut : (ℕ → List ℕ → List ℕ → Bool) → Votes → Votes
voted_at_cut good v =
    voted_late good 2 (started 2 [])
    (voted good 3 (started 3 [])
    (voted good 1 (started 1 (FailsNew ∷ []))
    (voted good 0 (started 0 (FailsOld ∷ [])) v)))

-- a box of this number stands so, with this checker
pub record IsAt {C : Type 0} (number : ℕ) (s : Stand) (checker : C) (b : NumberedBox C) : Type 0 where
  pub number_is : b.number ≡ number
  pub stand : stand_of b ≡ s
  pub judge : checker_of b ≡ checker

-- the same of a box before and after, which keeps its number and its checker: it was asked, or took a certificate
pub record WasAsked {C : Type 0} (good : C → ℕ → List ℕ → List ℕ → Bool) (offer : Offer) (b after : NumberedBox C) : Type 0 where
  pub number : after.number ≡ b.number
  pub stand : stand_of after ≡ asked (good (checker_of b)) (stand_of b) offer
  pub checker : checker_of after ≡ checker_of b

pub record HasTaken {C : Type 0} (good : C → ℕ → List ℕ → List ℕ → Bool) (bytes : List ℕ) (b after : NumberedBox C) : Type 0 where
  pub number : after.number ≡ b.number
  pub stand : stand_of after ≡ took (good (checker_of b)) (stand_of b) bytes
  pub checker : checker_of after ≡ checker_of b

-- the votes after a box was asked
abbrev pub voted_by : {C : Type 0} → (C → ℕ → List ℕ → List ℕ → Bool) → NumberedBox C → Votes → Votes
voted_by good b v = voted (good (checker_of b)) b.number (stand_of b) v

-- the votes after all four were asked, in their order
abbrev pub voted_by_all : {C : Type 0} → (C → ℕ → List ℕ → List ℕ → Bool) → FourBoxes C → Votes → Votes
voted_by_all good b v = voted_by good b.fourth (voted_by good b.third (voted_by good b.second (voted_by good b.first v)))

-- each of the four boxes, before and after, keeps to this
pub record Each {C : Type 0} (R : NumberedBox C → NumberedBox C → Type 0) (b after : FourBoxes C) : Type 0 where
  pub first : R b.first after.first
  pub second : R b.second after.second
  pub third : R b.third after.third
  pub fourth : R b.fourth after.fourth

-- after power was cut at all four: box 0 in the middle of a write that did not stand, box 1 of one that did, box 2 with
-- a slip in hand, and box 3 at rest
pub record WereCut {C : Type 0} (good : C → ℕ → List ℕ → List ℕ → Bool) (checker : C) (offer : Offer) (b : FourBoxes C) : Type 0 where
  pub first : IsAt 0 (restarted (asked (good checker) (started 0 (FailsOld ∷ [])) offer)) checker b.first
  pub second : IsAt 1 (restarted (asked (good checker) (started 1 (FailsNew ∷ [])) offer)) checker b.second
  pub third : IsAt 2 (cut_in_hand (good checker) (started 2 []) offer) checker b.third
  pub fourth : IsAt 3 (restarted (asked (good checker) (started 3 []) offer)) checker b.fourth

-- what all four report
abbrev pub reports_of : {C : Type 0} → FourBoxes C → List Report
reports_of b = report_of (stand_of b.first) ∷ report_of (stand_of b.second) ∷ report_of (stand_of b.third) ∷ report_of (stand_of b.fourth) ∷ []

-- the one that all reports are, or none where they differ
abbrev pub Agreed : List Report → Option Report → Type 0
Agreed reports None = (t : Report) → All (λ r. r ≡ t) reports → ⊥
Agreed reports (Some t) = All (λ r. r ≡ t) reports
