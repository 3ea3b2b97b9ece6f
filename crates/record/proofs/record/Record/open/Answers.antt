-- The fault found is the refusal.
use Rattle.std.proofs.Common.{sym, ◌∙◌}
use Rattle.std.proofs.lemmas.Result.{err_from_is_err_and}
use Rattle.record.proofs.Opening.{record_refused}
use Rattle.record.proofs.record.Record.open.Goals as goal

pub returns-in_err-check : goal.returns-in_err-check
returns-in_err-check c =
    let p = err_from_is_err_and c.from_residual.result c.from_residual.ensures.1 in
    rw (p.1, p.2) (sym (record_refused c.args.b.now _ (sym c.check.ensures ∙ c.in_err-check.was)))
