-- A typed field begins with two letters, so its tag has a place in the table.
use Rattle.std.proofs.Common.{◌∙◌, sym, arith}
use Rattle.strict.proofs.Tags.{fine_begins}
use Rattle.strict.proofs.tag.Tags.take.Goals as goal

pub bounds-field-0 : goal.bounds-field-0
bounds-field-0 c = omega (arith, (fine_begins _ (sym c.fine_field.ensures ∙ c.if-not-fine_field.false)).long)

pub bounds-field-1 : goal.bounds-field-1
bounds-field-1 c = omega (arith, (fine_begins _ (sym c.fine_field.ensures ∙ c.if-not-fine_field.false)).long)

pub tag_place-at-requires : goal.tag_place-at-requires
tag_place-at-requires c = let b = fine_begins _ (sym c.fine_field.ensures ∙ c.if-not-fine_field.false) in (b.first, b.second)
