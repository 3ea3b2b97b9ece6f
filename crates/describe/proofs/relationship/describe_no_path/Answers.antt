-- With short descs the text is written if it fits.
use Rattle.std.proofs.Common.{rules, sym, ◌∙◌, length}
use Rattle.std.specs.Option.{option_copied}
use Rattle.model.specs.Describe.{describe_none}
use Rattle.describe.proofs.Outcomes.{short_written}
use Rattle.describe.proofs.relationship.describe_no_path.Goals as goal

pub returns : goal.returns
returns c =
    let w = c.write_text.ensures (describe_none (option_copied c.args.own) (option_copied c.args.other) c.args.descs.from.now c.args.descs.to.now) (λ out size after p. search rules) in
    rw (short_written _ c.args.descs.from.now c.args.descs.to.now (length c.args.out.now) (sym c.are_short.ensures ∙ c.if-not-are_short.false)) (w.size, w.output)
