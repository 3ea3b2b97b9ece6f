-- No further byte, another tab, or the one name (`Parts`).
use Rattle.std.proofs.Common.{arith}
use Rattle.fields.proofs.Parts.{no_name, more_names, the_name}
use Rattle.fields.proofs.field.name_line.Goals as goal
use Rattle.fields.proofs.field.name_line.Goals.{then-line-le4-via-then-line-le4, then-line-le4-via-else-line-le4+then-find_byte-line}

pub returns-then-line-le4 : goal.returns-then-line-le4
returns-then-line-le4 c = elim c.then-line-le4.branch [
  | then-line-le4-via-then-line-le4 w ↦ (no_name 9 c.args.line.now 4 w.if-line-le4.true, tt)
  | then-line-le4-via-else-line-le4+then-find_byte-line w ↦ (more_names 9 c.args.line.now 4 w.find_byte.result c.requires w.find_byte.ensures (omega arith), tt)
]

pub returns : goal.returns
returns c = (the_name 9 c.args.line.now 4 c.find_byte.result c.requires c.find_byte.ensures c.if-line-le4.false c.if-find_byte-line.false, c.requires)
