-- Worked cases of the definitions, in one table.
use Rattle.std.specs.Prelude.{◌≡◌, ℕ, ◌+◌, ◌^◌, true, List, [], ◌∷◌, ◌++◌, map, length, take, replicate, None, Ok, Err, Result}
use Rattle.refusals.specs.Reading.{Reading, found}
use Rattle.refusals.specs.declared.Layer.TheVariants as layer
use Rattle.refusals.specs.declared.Cause.TheVariants as cause
use Rattle.docket.specs.declared.Docket.{Docket}
use Rattle.docket.specs.Layout.{encoded, read_docket}
use Rattle.certificate.specs.declared.table.Entry.{Entry}
use Rattle.certificate.specs.declared.table.Signer.{Signer}
use Rattle.certificate.specs.Layout.{head_of, contents_of}
use Rattle.book.specs.Pallets.{pallet_valid, pallet_next}
use Rattle.seals.specs.Roll.{good_under}
use Rattle.marks.specs.Outcomes.{End, ends}
use Rattle.marks.specs.declared.outcome.Outcome.TheVariants.{FailsOld, FailsNew}
use Rattle.settlement.specs.Box.{BoxState, take_answer, take_box}
use Rattle.pool.specs.Ready.{SlipState, finding, slip_after}
use Rattle.pool.specs.History.{Call, countersign, join, restart, Moment, after_calls, at_setup}
use Rattle.workbench.specs.declared.answer.Answer.{Answer}
use Rattle.workbench.specs.declared.answer.Answer.TheVariants.{Settled, Refused}
use Rattle.workbench.specs.Stream.{answers_to}
use Rattle.workbench.specs.Bench.{opening_balances, only_docket, one_pallet, docket_of, bench_roll, started}
use Rattle.workbench.specs.declared.bench.BenchDocket.TheVariants.{P, Q, R}

-- a docket of one pallet from account 0 to 1, with this count of lines and this number
abbrev pub with : ℕ → ℕ → Docket
with count number = record {
  pool = 7;
  account = 0;
  count = count;
  number = number;
  lines = (one_pallet 0 1).lines;
}

-- the first boxes, each with a seal of two bytes
abbrev pub signers : ℕ → List Signer
signers n = take n (record { number = 0; size = 2 } ∷ record { number = 1; size = 2 } ∷ record { number = 2; size = 2 } ∷ [])

-- the certificate of a docket by so many boxes, whose roll entries start at `first`
abbrev pub certificate_of : ℕ → ℕ → Docket → List ℕ
certificate_of n first d = head_of d (signers n) ++ take (n + n) (0 ∷ first ∷ 0 ∷ (first + 1) ∷ 0 ∷ (first + 2) ∷ [])

-- the certificates of P, Q and R
abbrev pub cert_p : List ℕ
cert_p = certificate_of 3 0 (docket_of P)

abbrev pub cert_q : List ℕ
cert_q = certificate_of 3 3 (docket_of Q)

abbrev pub cert_r : List ℕ
cert_r = certificate_of 3 6 (docket_of R)

-- what the bench's box answers to certificates, and the balances of accounts 0 to 2 after them
abbrev pub given : List (List ℕ) → List Answer
given cs = answers_to pallet_valid pallet_next (good_under bench_roll) (started opening_balances) cs

abbrev pub box_after : BoxState (List ℕ) → List (List ℕ) → BoxState (List ℕ)
box_after b [] = b
box_after b (c ∷ cs) = box_after (take_box pallet_valid pallet_next (good_under bench_roll) b c) cs

abbrev pub balances : List (List ℕ) → List ℕ
balances cs = take 3 (box_after (started opening_balances) cs).current

-- a box that finds every seal good takes one certificate
abbrev pub trusting : List ℕ → Result ℕ Reading
trusting c = take_answer pallet_valid pallet_next (λ _ _ _. true) (started opening_balances) c

-- S moves a pallet from account 0 to 2; the other moves two from 0 to 1
abbrev pub docket_s : Docket
docket_s = one_pallet 0 2

abbrev pub two_pallets : Docket
two_pallets = only_docket 0 1 2

-- what box 0 of the bench's pool answers to the countersign of a docket, after calls, beside an unmarked store whose
-- writes end so; every yard's seal is good
abbrev pub moment_of : List End → List Call → Moment (List ℕ)
moment_of row calls = after_calls pallet_valid pallet_next (λ _ _ _. true) (at_setup (started opening_balances) (record { owner = 0; mark = λ _. None; row = row })) calls

abbrev pub countersigned : List End → List Call → Docket → Result SlipState Reading
countersigned row calls d =
    let m = moment_of row calls in
    slip_after m.box m.store (finding pallet_valid pallet_next (λ _ _ _. true) m.box m.store (encoded d) [])

-- the slip of box 0 for account 0 and number 1
abbrev pub slip : SlipState
slip = record { maker = 0; account = 0; number = 1 }

-- P is countersigned, and then there is a restart and another join
abbrev pub once_more : List Call
once_more = join ∷ countersign (encoded (docket_of P)) [] ∷ restart ∷ join ∷ []

-- the same with no restart
abbrev pub at_once : List Call
at_once = join ∷ countersign (encoded (docket_of P)) [] ∷ []

-- the table
pub record WorkedCases : Type 0 where
  pub of_79_bytes : read_docket (replicate 79 0) ≡ Err (found layer.Docket cause.Malformed 79)
  pub no_lines : read_docket (encoded (with 0 1)) ≡ Err (found layer.Docket cause.Malformed 5)
  pub five_lines : read_docket (encoded (with 5 1)) ≡ Err (found layer.Docket cause.Malformed 5)
  pub four_lines : read_docket (encoded (with 4 1)) ≡ Ok (with 4 1)
  pub number_0 : read_docket (encoded (with 1 0)) ≡ Err (found layer.Docket cause.Malformed 8)
  pub number_past : read_docket (encoded (with 1 (2 ^ 40 + 1))) ≡ Err (found layer.Docket cause.Malformed 8)
  pub number_last : read_docket (encoded (with 1 (2 ^ 40))) ≡ Ok (with 1 (2 ^ 40))
  pub three_seals : length cert_p ≡ 114
  pub places : map (λ (e : Entry). e.place) (contents_of (docket_of P) (signers 3)).entries ≡ 108 ∷ 110 ∷ 112 ∷ []
  pub p_q : given (cert_p ∷ cert_q ∷ []) ≡ Settled 1 ∷ Settled 1 ∷ []
  pub q_p : given (cert_q ∷ cert_p ∷ []) ≡ Settled 0 ∷ Settled 2 ∷ []
  pub p_q_balances : balances (cert_p ∷ cert_q ∷ []) ≡ 1 ∷ 0 ∷ 1 ∷ []
  pub q_p_balances : balances (cert_q ∷ cert_p ∷ []) ≡ 1 ∷ 0 ∷ 1 ∷ []
  pub r_q_p : given (cert_r ∷ cert_q ∷ cert_p ∷ []) ≡ Settled 1 ∷ Settled 1 ∷ Settled 1 ∷ []
  pub q_p_r : given (cert_q ∷ cert_p ∷ cert_r ∷ []) ≡ Settled 0 ∷ Settled 2 ∷ Settled 1 ∷ []
  pub r_q_p_balances : balances (cert_r ∷ cert_q ∷ cert_p ∷ []) ≡ 1 ∷ 1 ∷ 0 ∷ []
  pub q_p_r_balances : balances (cert_q ∷ cert_p ∷ cert_r ∷ []) ≡ 1 ∷ 1 ∷ 0 ∷ []
  pub number_4_waits : trusting (certificate_of 3 0 (with 1 4)) ≡ Ok 0
  pub number_5_first : trusting (certificate_of 3 0 (with 1 5)) ≡ Err (found layer.Box cause.TooFarAhead 0)
  pub two_entries : given (certificate_of 2 0 (docket_of P) ∷ []) ≡ Refused cause.TooFewEntries ∷ []
  pub three_entries : given (cert_p ∷ []) ≡ Settled 1 ∷ []
  pub p_first : countersigned [] (join ∷ []) (docket_of P) ≡ Ok slip
  pub p_then_p : countersigned [] once_more (docket_of P) ≡ Ok slip
  pub p_then_s : countersigned [] once_more docket_s ≡ Err (found layer.Box cause.OtherMarked 0)
  pub new_mark_stands : countersigned (ends FailsNew ∷ []) (join ∷ []) (docket_of P) ≡ Err (found layer.Box cause.WriteFailed 0)
  pub new_mark_then_p : countersigned (ends FailsNew ∷ []) once_more (docket_of P) ≡ Ok slip
  pub new_mark_then_s : countersigned (ends FailsNew ∷ []) once_more docket_s ≡ Err (found layer.Box cause.OtherMarked 0)
  pub old_mark_stays : countersigned (ends FailsOld ∷ []) (join ∷ []) (docket_of P) ≡ Err (found layer.Box cause.WriteFailed 0)
  pub old_mark_then_s : countersigned (ends FailsOld ∷ []) once_more docket_s ≡ Ok slip
  pub p_then_s_at_once : countersigned [] at_once docket_s ≡ Err (found layer.Box cause.OtherMarked 0)
  pub new_mark_then_p_at_once : countersigned (ends FailsNew ∷ []) at_once (docket_of P) ≡ Ok slip
  pub new_mark_then_s_at_once : countersigned (ends FailsNew ∷ []) at_once docket_s ≡ Err (found layer.Box cause.OtherMarked 0)
  pub old_mark_then_s_at_once : countersigned (ends FailsOld ∷ []) at_once docket_s ≡ Ok slip
  pub amount_2 : countersigned [] (join ∷ []) two_pallets ≡ Err (found layer.Box cause.NotCovered 0)
