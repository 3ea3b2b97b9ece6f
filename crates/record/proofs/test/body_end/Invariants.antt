-- The entries left end where all of them do; `at` is where the next must start.
use Rattle.std.proofs.Common.{◌≡◌, ◌+◌, ◌*◌, ◌≤◌, drop, length}
use Rattle.model.specs.Record.{max_name_bytes}
use Rattle.model.specs.Layout.{counts_length}
use Rattle.record.specs.Rows.{rows_of}
use Rattle.record.specs.Test.{entries_at, body_end}
use Rattle.record.proofs.test.body_end.Given as goal

abbrev pub invariant-loop-start : goal.invariant-loop-start
invariant-loop-start l = record {
  short : l.at + max_name_bytes * length (rows_of l.start-iterator) ≤ max_name_bytes * l.n;
  rest : body_end 0 (entries_at l.n (drop counts_length l.b)) ≡ body_end l.at (rows_of l.start-iterator);
}
