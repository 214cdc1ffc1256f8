-- The bench: pool 7, one box of four may be faulty, two pallets, and three dockets that move one each.
use Rattle.std.specs.Prelude.{ℕ, zero, suc, ◌/◌, ◌%◌, List, [], ◌∷◌, ◌++◌, map, replicate}
use Rattle.std.specs.List.{flat_map}
use Rattle.docket.specs.declared.Docket.{Docket}
use Rattle.docket.specs.Layout.{encoded}
use Rattle.book.specs.Pallets.{pallet_valid, pallet_next}
use Rattle.seals.specs.Roll.{good_under}
use Rattle.seals.specs.Texts.{box_party, countersign_text}
use Rattle.settling.specs.Window.{fresh}
use Rattle.settlement.specs.Box.{BoxState}
use Rattle.workbench.specs.declared.answer.Answer.{Answer}
use Rattle.workbench.specs.declared.bench.BenchDocket.{BenchDocket}
use Rattle.workbench.specs.declared.bench.BenchDocket.TheVariants.{P, Q, R}
use Rattle.workbench.specs.Stream.{answers_to, certificates_in}

-- accounts 0 and 2 open with a pallet each
abbrev pub opening_balances : List ℕ
opening_balances = 1 ∷ 0 ∷ 1 ∷ replicate 61 0

-- the docket of number 1 of an account that moves pallets in its one line, their count in its last two bytes
abbrev pub only_docket : ℕ → ℕ → ℕ → Docket
only_docket from to pallets = record {
  pool = 7;
  account = from;
  count = 1;
  number = 1;
  lines = (1 ∷ to ∷ replicate 12 0 ++ (pallets / 256 ∷ pallets % 256 ∷ [])) ∷ replicate 16 0 ∷ replicate 16 0 ∷ replicate 16 0 ∷ [];
}

-- the docket of number 1 that moves a pallet
abbrev pub one_pallet : ℕ → ℕ → Docket
one_pallet from to = only_docket from to 1

-- the dockets by their order: P, Q, and R from there on
abbrev pub in_order : ℕ → BenchDocket
in_order zero = P
in_order (suc zero) = Q
in_order (suc (suc n)) = R

-- P, Q and R
abbrev pub docket_of : BenchDocket → Docket
docket_of P = one_pallet 0 1
docket_of Q = one_pallet 1 0
docket_of R = one_pallet 2 1

-- a roll entry: a box sealed a docket. The party is told in one byte, so that of box 192 and above is not
abbrev pub roll_entry : ℕ → Docket → List ℕ
roll_entry box d = box_party box % 256 ∷ 82 ∷ countersign_text box (encoded d)

-- boxes 0 to 2 for a docket, and for each docket in turn
abbrev pub entries_of : BenchDocket → List (List ℕ)
entries_of name = map (λ box. roll_entry box (docket_of name)) (0 ∷ 1 ∷ 2 ∷ [])

unfoldable pub bench_roll : List ℕ
bench_roll = flat_map (λ entry. entry) (flat_map entries_of (P ∷ Q ∷ R ∷ []))

-- box 0 of the pool as it starts
abbrev pub started : {State : Type 0} → State → BoxState State
started opening = record {
  pool = 7;
  number = 0;
  boxes = 4;
  needed = 3;
  opening = opening;
  kept = opening;
  current = opening;
  accounts = replicate 64 fresh;
}

-- what the bench answers to a stream
unfoldable pub bench_answers : List ℕ → List Answer
bench_answers stream = answers_to pallet_valid pallet_next (good_under bench_roll) (started opening_balances) (certificates_in stream)
