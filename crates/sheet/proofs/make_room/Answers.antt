use Rattle.std.proofs.Common.{◌≡◌, ◌+◌, ◌<◌, ◌≤◌, length, ap, ◌∙◌, arith, rules}
use Rattle.sheet.specs.Sheet.{count_of, end_of, records, keep_last}
use Rattle.sheet.proofs.Heads.{fits}
use Rattle.sheet.proofs.Rooms.{room_rows, room_space, room_head, room_rest}
use Rattle.sheet.proofs.make_room.Goals as goal

pub returns : goal.returns
returns c =
    let was = c.args.bytes.now in
    let moved = c.compact-left.new.bytes in
    let clear = c.clear_rest.new.bytes in
    let end = c.set_count.new.bytes in
    let left = c.compact-left.result in
    let f = fits was c.requires in
    let full : length was < end_of (count_of was) + 80 = omega (arith, c.count-count.ensures, c.end_of.ensures, c.if-end_of-bytes.false) in
    let same : length end ≡ length was = search rules in
    let low : 5216 ≤ length end = omega (arith, f.low, same) in
    let long : length clear ≡ length end = search rules in
    let kept = c.compact-left.ensures.left ∙ ap (λ n. keep_last (records 0 n was)) c.count-count.ensures in
    record {
      rows = room_rows left was moved clear end full c.compact-left.ensures.few low long kept c.clear_rest.ensures.front c.set_count.ensures;
      space = room_space left was moved clear end full c.compact-left.ensures.few low long kept c.clear_rest.ensures.front c.set_count.ensures;
      head = room_head left was moved clear end full c.compact-left.ensures.few low long kept c.clear_rest.ensures.front c.set_count.ensures c.compact-left.ensures.head;
      rest = λ _. room_rest left was moved clear end full c.compact-left.ensures.few low long kept c.clear_rest.ensures.front c.set_count.ensures c.clear_rest.ensures.rest;
    }
