use Rattle.std.proofs.Common.{◌≡◌, ◌/◌, ◌<◌, [], length, get_or, refl, ap, ◌∙◌, length-append, arith}
use Rattle.lms.proofs.Steps.{fed, fed_more, item_count, item_low, item_number, item_digit, item_start, whole_chain}
use Rattle.sha256.proofs.Arrays.{chunk_at}
use Rattle.std.proofs.lemmas.List.{append-nil}
use Rattle.std.proofs.lemmas.Iterator.{YieldsList-from_slice, YieldsList-from_zip}
use Rattle.std.proofs.lemmas.Iterator.Consumers.{YieldsList-from_enumerate, YieldsList-turn, YieldsList-end}
use Rattle.lms.proofs.chains.one_time_key.Goals as goal

pub loop-i-init : goal.loop-i-init
loop-i-init c rest = c.update.ensures rest ∙ c.new-hasher.ensures _ ∙ fed _ _ _ _ _ rest c.front.ensures

pub loop-i-preserved : goal.loop-i-preserved
loop-i-preserved c rest =
    let digits = c.args.digits.now in
    let starts = c.as_chunks.result.0.now in
    let values = c.args.values.now in
    let k = length c.loop-i.yielded in
    let many : length starts ≡ 34 = omega (arith, c.as_chunks.ensures.front_len) in
    let ten : length digits ≡ 34 = omega arith in
    let road = YieldsList-from_enumerate (YieldsList-from_zip (YieldsList-from_slice digits (cc)) (YieldsList-from_slice starts (cc))) (cc) in
    let turn = YieldsList-turn road c.loop-i.yielded c.loop-i.i-iterator c.loop-i.yielded_by c.next.result c.next.new.self (c.in-Some.i, (c.in-Some.digit, c.in-Some.start)) c.in-Some.is c.next.ensures.steps in
    let low = item_low digits starts ten many k _ _ _ turn.0 turn.1 in
    let within : k < length values / 32 = omega (arith, low) in
    let start = item_start digits starts ten many k _ _ _ turn.0 turn.1 ∙ ap (λ l. get_or l k []) c.as_chunks.ensures.front ∙ chunk_at 32 _ values k [] within in
    let end = whole_chain _ digits values _ _ c.chain_end-end.result _ k _ _ (item_number digits starts ten many k _ _ _ turn.0 turn.1) (item_digit digits starts ten many k _ _ _ turn.0 turn.1) start c.front-in-loop-i.ensures c.chain_end-end.ensures in
    c.update-in-loop-i.ensures rest ∙ c.loop-i.invariant _ ∙ rw length-append (fed_more _ digits values _ k _ rest end)

pub returns : goal.returns
returns c =
    let digits = c.args.digits.now in
    let starts = c.as_chunks.result.0.now in
    let many : length starts ≡ 34 = omega (arith, c.as_chunks.ensures.front_len) in
    let ten : length digits ≡ 34 = omega arith in
    let road = YieldsList-from_enumerate (YieldsList-from_zip (YieldsList-from_slice digits (cc)) (YieldsList-from_slice starts (cc))) (cc) in
    let end = YieldsList-end road c.loop-i.yielded c.loop-i.i-iterator c.loop-i.yielded_by c.next.result c.next.new.self c.in-None.is c.next.ensures.steps in
    let all = end.1 ∙ item_count digits starts ten many in
    c.finish.ensures ∙ c.loop-i.invariant [] ∙ rw (append-nil, all) refl
