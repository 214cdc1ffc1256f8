use Rattle.std.proofs.Common.{refl}
use Rattle.docket.specs.Layout.{encoded, decoded, read_docket}
use Rattle.certificate.specs.Layout.{read_head, read_certificate, head_of}
use Rattle.settling.specs.Settle.{settle_one, settle_all, uncovered}
use Rattle.settlement.specs.Accept.{accepted}
use Rattle.settlement.specs.Box.{take_answer, take_box}
use Rattle.settlement.specs.Examine.{examined}
use Rattle.pool.specs.Ready.{finding}
use Rattle.workbench.specs.Bench.{bench_roll}
use Rattle.cases.proofs.worked_cases.Goals as goal

pub returns : goal.returns
unfolding encoded decoded read_docket read_head read_certificate head_of settle_one settle_all accepted take_answer take_box examined uncovered finding bench_roll
returns c = record {
  of_79_bytes = refl;
  no_lines = refl;
  five_lines = refl;
  four_lines = refl;
  number_0 = refl;
  number_past = refl;
  number_last = refl;
  three_seals = refl;
  places = refl;
  p_q = refl;
  q_p = refl;
  p_q_balances = refl;
  q_p_balances = refl;
  r_q_p = refl;
  q_p_r = refl;
  r_q_p_balances = refl;
  q_p_r_balances = refl;
  number_4_waits = refl;
  number_5_first = refl;
  two_entries = refl;
  three_entries = refl;
  p_first = refl;
  p_then_p = refl;
  p_then_s = refl;
  new_mark_stands = refl;
  new_mark_then_p = refl;
  new_mark_then_s = refl;
  old_mark_stays = refl;
  old_mark_then_s = refl;
  p_then_s_at_once = refl;
  new_mark_then_p_at_once = refl;
  new_mark_then_s_at_once = refl;
  old_mark_then_s_at_once = refl;
  amount_2 = refl;
}
