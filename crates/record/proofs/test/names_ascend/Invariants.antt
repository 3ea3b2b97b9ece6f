-- Whether all ascend is whether the last that was read, whose body stands at `at`, and those left do.
use Rattle.std.proofs.Common.{◌≡◌, ◌+◌, ◌*◌, ◌≤◌, ◌<◌, ◌∷◌, take, drop, length}
use Rattle.model.specs.Bytes.{compare_bytes}
use Rattle.model.specs.Record.{ascends}
use Rattle.model.specs.Layout.{counts_length}
use Rattle.record.specs.Rows.{rows_of}
use Rattle.record.specs.Test.{entries_at, cut, Under}
use Rattle.record.proofs.test.names_ascend.Given as goal

abbrev pub invariant-loop-next : goal.invariant-loop-next
invariant-loop-next l = record {
  size : l.size < 65536;
  under : Under 65536 (rows_of l.next-iterator);
  bounded : l.at + 65536 * length (rows_of l.next-iterator) ≤ l.bodies + 65536 * l.n;
  rest : ascends compare_bytes (cut (entries_at l.n (drop counts_length l.b)) (drop l.bodies l.b))
      ≡ ascends compare_bytes (take l.size (drop l.at l.b) ∷ cut (rows_of l.next-iterator) (drop (l.at + l.size) l.b));
}
