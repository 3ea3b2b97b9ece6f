-- The table has the tags of the fields read, and the fields left decide.
use Rattle.strict.specs.Parts.{parts_left}
use Rattle.strict.proofs.Lines.{Reading}
use Rattle.strict.proofs.line.check_strict.Given as goal

abbrev pub invariant-loop-place : goal.invariant-loop-place
invariant-loop-place l = record {
  reading : Reading l.line l.tags.seen l.place-iterator.count (parts_left l.place-iterator.iter);
  goes : (goal.iterator-loop-place).can_next l.place-iterator × (goal.iterator-loop-place).is_finite l.place-iterator;
}
