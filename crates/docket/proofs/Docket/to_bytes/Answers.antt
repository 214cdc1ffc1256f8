use Rattle.std.proofs.Common.{◌∙◌, rules}
use Rattle.docket.proofs.Sizes.{row_long}
use Rattle.docket.proofs.Answered.{laid_out}
use Rattle.docket.proofs.Docket.to_bytes.Goals as goal

pub returns-clause-value : goal.returns-clause-value
returns-clause-value c =
    let found = rw c.unwrap.ensures at c.as_array.ensures.cases in
    laid_out c.args.self.now _ _ c.unwrap.result.now c.to_be_bytes.ensures c.to_be_bytes-2.ensures (found.same ∙ c.as_flattened.ensures.value)

pub returns-clause-sized : goal.returns-clause-sized
returns-clause-sized c =
    (search rules, search rules, search rules, search (rules, row_long), search (rules, row_long), search (rules, row_long), search (rules, row_long))
