use Rattle.std.proofs.Common.{◌≡◌, ◌<◌, ◌∷◌, length, sym, subst, arith}
use Rattle.workbench.specs.Stream.{certificates_in}
use Rattle.workbench.proofs.Frames.{frames_more}
use Rattle.workbench.proofs.stream.CertificatesIterator.next.Goals as goal
use Rattle.workbench.proofs.stream.CertificatesIterator.next.Goals.{After-split_at}

first : (c : After-split_at) → certificates_in c.args.self.now.rest.now ≡ c.split_at.result.0.now ∷ certificates_in c.split_at.result.1.now
first c = frames_more c.args.self.now.rest.now _ _ c.in_ok-size.size c.in_ok-size.ensures.answer c.split_at.ensures.front c.split_at.ensures.back

pub returns-clause-steps : goal.returns-clause-steps
returns-clause-steps c = first (goal.at.returns-clause-steps c).After-split_at

pub returns-clause-goes : goal.returns-clause-goes
returns-clause-goes c =
    let e = first (goal.at.returns-clause-goes c).After-split_at in
    record {
      on = λ _. (tt, tt, subst (λ l. length (certificates_in c.split_at.result.1.now) < length l) (sym e) (omega arith));
      keeps = tt;
      rests = λ _. tt;
    }
