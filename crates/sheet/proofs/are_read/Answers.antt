use Rattle.std.proofs.Common.{◌∙◌, rules, tests, is_ok}
use Rattle.std.proofs.lemmas.Iterator.{YieldsList-from_slice}
use Rattle.std.proofs.lemmas.Iterator.Search.{all_from_yields_List}
use Rattle.docket.specs.Layout.{read_docket}
use Rattle.sheet.proofs.Places.{all_read_is}
use Rattle.sheet.proofs.are_read.Goals as goal

pub returns : goal.returns
returns c =
    all_from_yields_List (λ r. is_ok (read_docket r)) _ _ c.all.result c.all.ensures.ran (YieldsList-from_slice c.args.records.now (cc)) (λ x b q k. search (rules, tests)) ∙ all_read_is c.args.records.now
