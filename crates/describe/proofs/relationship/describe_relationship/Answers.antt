-- A fault that was found is the refusal, and the output stays.
use Rattle.std.proofs.Common.{length}
use Rattle.std.proofs.lemmas.Result.{err_from_is_err_and}
use Rattle.describe.proofs.Outcomes.{written_fault}
use Rattle.describe.proofs.relationship.describe_relationship.Goals as goal

pub returns-in_err-found-clause-size : goal.returns-in_err-found-clause-size
returns-in_err-found-clause-size c =
    let a = c.args in
    let p = err_from_is_err_and c.from_residual.result c.from_residual.ensures.1 in
    let fault = rw c.in_err-found.was at c.find_path.ensures in
    rw (p.1, p.2, written_fault a.b.now a.c.now a.self_desc.now a.other_desc.now (length a.out.now) _ fault)

pub returns-in_err-found-clause-output : goal.returns-in_err-found-clause-output
returns-in_err-found-clause-output c =
    let a = c.args in
    let fault = rw c.in_err-found.was at c.find_path.ensures in
    rw (written_fault a.b.now a.c.now a.self_desc.now a.other_desc.now (length a.out.now) _ fault)
