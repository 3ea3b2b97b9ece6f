-- With short descs the path's text is written if it fits.
use Rattle.std.proofs.Common.{rules, sym, ap, ◌∙◌, length}
use Rattle.model.specs.Describe.{after_last_empty, describe_path}
use Rattle.path_bytes.specs.Steps.{steps_of}
use Rattle.describe.proofs.Outcomes.{short_written, long_written, path_text_of}
use Rattle.describe.proofs.relationship.describe_path.Goals as goal

pub returns-then-not-are_short : goal.returns-then-not-are_short
returns-then-not-are_short c = rw (long_written _ c.args.descs.from.now c.args.descs.to.now (length c.args.out.now) (sym c.are_short.ensures ∙ c.if-not-are_short.true)) (search rules)

pub returns : goal.returns
returns c =
    let a = c.args in
    let start = c.path_start-start in
    let listed = c.after_last_empty-steps in
    let text = describe_path start.result.now (steps_of listed.result) a.descs.from.now a.descs.to.now in
    let w = c.write_text.ensures text (λ out size after p. search rules) in
    rw (
      path_text_of a.path.now start.result.now (steps_of listed.result) a.descs.from.now a.descs.to.now start.ensures (listed.ensures ∙ ap after_last_empty c.of.ensures),
      short_written text a.descs.from.now a.descs.to.now (length a.out.now) (sym c.are_short.ensures ∙ c.if-not-are_short.false),
    )
    (w.size, w.output)
