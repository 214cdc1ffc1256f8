use Rattle.std.proofs.Common.{◌∙◌, rules, tests}
use Rattle.std.proofs.lemmas.Iterator.Adapters.{YieldsList-from_rev_slice}
use Rattle.docket.specs.Layout.{read_docket}
use Rattle.sheet.specs.Sheet.{of_account}
use Rattle.sheet.proofs.Found.{found_from_find_map}
use Rattle.sheet.proofs.Places.{first_reverse}
use Rattle.sheet.proofs.last_of.Goals as goal

pub returns : goal.returns
returns c =
    found_from_find_map _ (λ r. of_account c.args.account (read_docket r)) _ (YieldsList-from_rev_slice c.args.records.now (cc)) (λ x r q k. search (rules, tests)) c.find_map.result c.find_map.ensures.runs
    ∙ first_reverse c.args.account c.args.records.now
