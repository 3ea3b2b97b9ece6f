-- The rows taken and those left are all of them.
use Rattle.std.proofs.Common.{◌≡◌, ◌+◌, ◌++◌, length, map}
use Rattle.record.specs.Rows.{rows_of}
use Rattle.record.specs.Test.{Under}
use Rattle.sorted.specs.Tables.{places_of}
use Rattle.sorted.proofs.loading.load_rows.Given as goal

abbrev pub invariant-loop-a : goal.invariant-loop-a
invariant-loop-a g l = record {
  count : length l.numbers.items + length (rows_of l.a-iterator) ≡ length (rows_of l.fn.rows);
  small : Under 65536 (rows_of l.a-iterator);
  rest : map places_of l.numbers.items ++ rows_of l.a-iterator ≡ rows_of l.fn.rows;
}
