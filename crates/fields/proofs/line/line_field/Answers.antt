-- By the line's first field (`Steps`).
use Rattle.std.proofs.Common.{arith, sym, ◌∙◌}
use Rattle.fields.proofs.Steps.{short_field, gaf_field, unknown_field}
use Rattle.fields.proofs.line.line_field.Goals as goal

pub returns-then-line-head_size : goal.returns-then-line-head_size
returns-then-line-head_size c = short_field c.args.line.now c.find_byte-head_size.result c.requires.other c.find_byte-head_size.ensures (omega arith)

pub returns-then-is_gaf_head : goal.returns-then-is_gaf_head
returns-then-is_gaf_head c =
    gaf_field c.args.line.now c.find_byte-head_size.result c.requires.other c.find_byte-head_size.ensures (omega arith)
    (sym c.is_gaf_head.ensures ∙ c.if-is_gaf_head.true) c.gaf_line.ensures

pub returns : goal.returns
returns c =
    unknown_field c.args.line.now c.find_byte-head_size.result c.requires.other c.find_byte-head_size.ensures (omega arith)
    (sym c.is_gaf_head.ensures ∙ c.if-is_gaf_head.false)
