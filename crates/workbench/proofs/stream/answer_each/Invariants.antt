use Rattle.std.proofs.Common.{◌≡◌, ◌++◌, vec_items}
use Rattle.workbench.specs.Stream.{answers_of, certificates_in}
use Rattle.workbench.proofs.stream.answer_each.Given as goal

abbrev pub invariant-loop-certificate : goal.invariant-loop-certificate
invariant-loop-certificate g l =
    vec_items l.answers ++ answers_of g.B.Book g.C.Checker l.cold (certificates_in l.certificate-iterator.rest.now)
    ≡ answers_of g.B.Book g.C.Checker l.initial.cold (certificates_in l.stream)
