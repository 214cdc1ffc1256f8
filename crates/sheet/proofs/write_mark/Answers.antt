use Rattle.std.proofs.Common.{◌≡◌, true, length, sym, ◌∙◌, rules}
use Rattle.marks.specs.Marks.{well_formed}
use Rattle.sheet.specs.Sheet.{fit}
use Rattle.sheet.proofs.Heads.{head_then}
use Rattle.sheet.proofs.Lasting.{wrote}
use Rattle.sheet.proofs.write_mark.Goals as goal

pub returns-clause-wrote : goal.returns-clause-wrote
returns-clause-wrote c =
    let was = c.args.bytes.now in
    let d = c.args.docket.now in
    let room = c.make_room.new.bytes in
    let end = c.append.new.bytes in
    let w : well_formed d ≡ true = sym c.is_well_formed.ensures ∙ c.if-not-is_well_formed.false in
    let f : fit was ≡ true = search rules in
    let same : length end ≡ length was = search rules in
    wrote was room end d w f same c.append.ensures.space c.append.ensures.back c.make_room.ensures.rows c.append.ensures.rows
    (head_then was room end c.make_room.ensures.head c.append.ensures.head) (λ h. c.append.ensures.rest (c.make_room.ensures.rest h))
