-- The first n numbers are those of both tables that are passed; then one of the two is passed whole.
use Rattle.std.proofs.Common.{length, ◌-◌, ◌+◌}
use Rattle.search.proofs.Merging.{Merging}
use Rattle.search.proofs.table.merge.Given as goal

abbrev pub invariant-loop-i : goal.invariant-loop-i
invariant-loop-i l = Merging l.a l.b l.out l.i l.j l.n

abbrev pub decreases-loop-i : goal.decreases-loop-i
decreases-loop-i l = length l.a + length l.b - (l.i + l.j)
