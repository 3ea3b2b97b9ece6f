-- The line as one field, or the second field of an `H` line (`Steps`).
use Rattle.std.proofs.Common.{arith, refl, sym, ◌∙◌}
use Rattle.fields.proofs.Steps.{line_read, fields_read}
use Rattle.fields.proofs.step.Fields.next_line.Goals as goal

pub returns-then-starts_with : goal.returns-then-starts_with
returns-then-starts_with c =
    fields_read c.requires.0 c.requires.1 c.requires.2 c.find_byte-end.ensures refl (sym c.starts_with.ensures.value ∙ c.if-starts_with.true) refl refl refl refl c.next_part.ensures

pub returns : goal.returns
returns c = line_read c.requires.0 c.requires.1 c.requires.2 c.find_byte-end.ensures refl refl refl (grind arith) (grind arith) c.line_field.ensures
