-- The fault found is the refusal; with none the records are what the buffers show.
use Rattle.std.proofs.Common.{ap₂, sym, ◌∙◌, Ok}
use Rattle.std.proofs.lemmas.Result.{err_from_is_err_and}
use Rattle.model.specs.Record.{GraphName}
use Rattle.record.proofs.Opening.{two_refused, two_opened, shown_decoded}
use Rattle.record.proofs.record.Record.open_both.Goals as goal

pub returns-in_err-check_both : goal.returns-in_err-check_both
returns-in_err-check_both c =
    let p = err_from_is_err_and c.from_residual.result c.from_residual.ensures.1 in
    rw (p.1, p.2) (sym (two_refused c.args.b.now c.args.c.now _ (sym c.check_both.ensures ∙ c.in_err-check_both.was)))

pub of-requires : goal.of-requires
of-requires c = shown_decoded c.args.b.now (two_opened c.args.b.now c.args.c.now (sym c.check_both.ensures ∙ c.in_ok-check_both.was)).0

pub of-requires-2 : goal.of-requires-2
of-requires-2 c = shown_decoded c.args.c.now (two_opened c.args.b.now c.args.c.now (sym c.check_both.ensures ∙ c.in_ok-check_both.was)).1

pub returns : goal.returns
returns c =
    ap₂ (λ (g h : GraphName). Ok (g, h)) c.of.ensures c.of-2.ensures ∙ sym (two_opened c.args.b.now c.args.c.now (sym c.check_both.ensures ∙ c.in_ok-check_both.was)).2
