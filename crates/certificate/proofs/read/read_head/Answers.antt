use Rattle.std.proofs.Common.{refl}
use Rattle.std.proofs.lemmas.Result.{err_from_is_err_and}
use Rattle.certificate.proofs.Head.{by_parts, by_end}
use Rattle.certificate.proofs.read.read_head.Goals as goal

pub returns-in_err-count : goal.returns-in_err-count
returns-in_err-count c =
    let p = err_from_is_err_and c.from_residual.result c.from_residual.ensures.1 in
    rw (p.1, p.2) (by_parts _ _ _ _ _ _ _ _ refl c.in_err-count.ensures.answer refl refl)

pub returns-in_err-table : goal.returns-in_err-table
returns-in_err-table c =
    let p = err_from_is_err_and c.from_residual-in_err-table.result c.from_residual-in_err-table.ensures.1 in
    let n = c.in_ok-count.ensures in
    rw (p.1, p.2) (by_parts _ _ _ _ _ _ _ _ n.bounds.0 n.answer c.in_err-table.ensures.entries refl)

pub returns-in_err-docket : goal.returns-in_err-docket
returns-in_err-docket c =
    let p = err_from_is_err_and c.from_residual-in_err-docket.result c.from_residual-in_err-docket.ensures.1 in
    let n = c.in_ok-count.ensures in
    rw (p.1, p.2) (by_parts _ _ _ _ _ _ _ _ n.bounds.0 n.answer c.in_ok-table.ensures.entries c.in_err-docket.ensures)

pub returns : goal.returns
returns c =
    let n = c.in_ok-count.ensures in
    let t = c.in_ok-table.ensures in
    by_end _ _ _ _ _ _ _ _ _ n.bounds.0 n.answer t.entries t.end c.in_ok-docket.ensures c.if_ending.ensures
