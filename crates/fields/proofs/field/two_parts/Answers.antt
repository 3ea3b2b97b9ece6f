-- The place of the first separator and, where that leaves two parts, of the second tell which case it is (`Parts`).
use Rattle.std.proofs.Common.{arith}
use Rattle.fields.proofs.Parts.{separator_within, none_before, none_behind, third_part, two_parts_lem}
use Rattle.fields.proofs.field.two_parts.Goals as goal
use Rattle.fields.proofs.field.two_parts.Goals.{then-i-eq0-via-then-i-eq0, then-i-eq0-via-else-i-eq0+then-s-i, then-i-eq0-via-else-i-eq0+else-s-i+then-find_byte-s}

pub overflow_add-i : goal.overflow_add-i
overflow_add-i c = omega (arith, separator_within c.args.separator c.args.s.now c.find_byte-i.result c.find_byte-i.ensures)

pub returns-then-i-eq0 : goal.returns-then-i-eq0
returns-then-i-eq0 c =
    let first = c.find_byte-i in
    elim c.then-i-eq0.branch [
      | then-i-eq0-via-then-i-eq0 w ↦ (none_before c.args.separator c.args.s.now first.result first.ensures w.if-i-eq0.true, tt)
      | then-i-eq0-via-else-i-eq0+then-s-i w ↦ (none_behind c.args.separator c.args.s.now first.result first.ensures w.if-s-i.true, tt)
      | then-i-eq0-via-else-i-eq0+else-s-i+then-find_byte-s w ↦
          (third_part c.args.separator c.args.s.now first.result first.ensures w.find_byte.result (omega arith) w.find_byte.ensures (omega arith), tt)
    ]

pub returns : goal.returns
returns c = (
  two_parts_lem c.args.separator c.args.s.now c.find_byte-i.result c.find_byte-i.ensures c.find_byte.result (omega arith) c.find_byte.ensures
      c.if-i-eq0.false c.if-s-i.false c.if-find_byte-s.false,
  omega arith,
)
