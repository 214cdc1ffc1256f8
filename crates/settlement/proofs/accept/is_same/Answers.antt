use Rattle.std.proofs.Common.{sym, ◌∙◌, rules}
use Rattle.docket.specs.Layout.{Sized}
use Rattle.docket.proofs.RoundTrip.{same_from_bytes}
use Rattle.docket.proofs.Sizes.{row_long}
use Rattle.settlement.proofs.accept.is_same.Goals as goal

pub returns : goal.returns
returns c =
    let s : Sized c.args.a = (search rules, search rules, search rules, search (rules, row_long), search (rules, row_long), search (rules, row_long), search (rules, row_long)) in
    let t : Sized c.args.b = (search rules, search rules, search rules, search (rules, row_long), search (rules, row_long), search (rules, row_long), search (rules, row_long)) in
    record { bytes = c.eq.ensures.answer ∙ sym (same_from_bytes c.args.a c.args.b s t); same = c.eq.ensures.same }
