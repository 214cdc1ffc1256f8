use Rattle.std.proofs.Common.{◌≡◌, sym, subst, rules}
use Rattle.std.specs.Prelude.{Decides}
use Rattle.docket.specs.Layout.{same_fields}
use Rattle.docket.proofs.RoundTrip.{fields_decide}
use Rattle.docket.proofs.DocketPartialEq.eq.Goals as goal

pub returns-then-self-other-4-clause-same : goal.returns-then-self-other-4-clause-same
returns-then-self-other-4-clause-same c =
    let fields : c.eq.result ≡ same_fields c.args.self.now c.args.other.now = search rules in
    subst (λ r. Decides r (c.args.self.now ≡ c.args.other.now)) (sym fields) (fields_decide c.args.self.now c.args.other.now)
