-- The step is that of the next part (`Steps`).
use Rattle.std.proofs.Common.{arith, refl}
use Rattle.fields.proofs.Steps.{part_ends, part_read}
use Rattle.fields.proofs.step.Fields.next_part.Goals as goal

pub overflow_add-next : goal.overflow_add-next
overflow_add-next c = omega (arith, part_ends c.requires.0 c.requires.1 (rw c.separator.ensures at c.find_byte-end.ensures), c.args.self.now.within)

pub invariant_of-self-clause-before : goal.invariant_of-self-clause-before
invariant_of-self-clause-before c = omega (arith, part_ends c.requires.0 c.requires.1 (rw c.separator.ensures at c.find_byte-end.ensures))

pub returns : goal.returns
returns c =
    part_read c.requires.0 c.requires.1 (rw c.separator.ensures at c.find_byte-end.ensures) refl refl refl refl refl (omega arith) refl c.content.ensures
