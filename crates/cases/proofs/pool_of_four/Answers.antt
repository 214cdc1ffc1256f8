use Rattle.std.proofs.Common.{◌≡◌, refl, inl, inr, arith}
use Rattle.docket.specs.Layout.{encoded, decoded, read_docket}
use Rattle.certificate.specs.Layout.{read_head, read_certificate, head_of}
use Rattle.settling.specs.Settle.{settle_one, settle_all, uncovered}
use Rattle.settlement.specs.Accept.{accepted}
use Rattle.settlement.specs.Box.{take_box}
use Rattle.settlement.specs.Examine.{examined}
use Rattle.pool.specs.Ready.{finding, released_text}
use Rattle.book.specs.Pallets.{pallet_valid, pallet_next}
use Rattle.book.specs.Transfers.{either_order}
use Rattle.pool.proofs.Promise.{pools_agree}
use Rattle.workbench.specs.Bench.{opening_balances}
use Rattle.cases.specs.Four.{four, at_end, texts_of, Done}
use Rattle.cases.proofs.Four.{seals_hold, by_number}
use Rattle.cases.proofs.pool_of_four.Goals as goal

pub returns : goal.returns
unfolding encoded decoded read_docket read_head read_certificate head_of settle_one settle_all accepted take_box examined uncovered finding released_text
returns c =
    let box_0 : Done 0 = record { released = refl; settled_p = (inl refl, omega arith); settled_q = (inr (inl refl), omega arith) } in
    let box_1 : Done 1 = record { released = refl; settled_p = (inl refl, omega arith); settled_q = (inr (inl refl), omega arith) } in
    let box_2 : Done 2 = record { released = refl; settled_p = (inr (inl refl), omega arith); settled_q = (inl refl, omega arith) } in
    let hold = seals_hold (by_number (λ n. (at_end n).released ≡ texts_of n) box_0.released box_1.released box_2.released) in
    record {
      accepted_p = refl;
      accepted_q = refl;
      box_0 = box_0;
      box_1 = box_1;
      box_2 = box_2;
      seals_hold = hold;
      agreement = pools_agree pallet_valid pallet_next opening_balances (λ before m n reached apart. either_order _ m n apart) four hold;
    }
