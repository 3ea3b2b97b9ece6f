-- The marks of the pairs left, made on what is there, are the marks of all of them.
use Rattle.std.proofs.Common.{◌≡◌, length}
use Rattle.record.specs.Rows.{rows_of}
use Rattle.record.specs.Test.{Under, marks}
use Rattle.record.proofs.test.mark_pairs.Given as goal

abbrev pub invariant-loop-from : goal.invariant-loop-from
invariant-loop-from l = record {
  under : Under (length l.fn.used) (rows_of l.from-iterator);
  rest : marks (rows_of l.from-iterator) l.used ≡ marks (rows_of l.fn.pairs) l.fn.used;
}
