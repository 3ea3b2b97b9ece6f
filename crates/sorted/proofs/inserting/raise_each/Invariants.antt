-- Those from i on stand one place further up; those before it stand where they stood.
use Rattle.std.proofs.Common.{◌≡◌, ◌≤◌}
use Rattle.sorted.specs.Sorted.{raised}
use Rattle.sorted.proofs.inserting.raise_each.Given as goal

abbrev pub invariant-loop-i : goal.invariant-loop-i
invariant-loop-i l = record { from : l.p ≤ l.i; within : l.i ≤ l.gap; moved : l.numbers ≡ raised l.fn.numbers l.gap l.i }

abbrev pub decreases-loop-i : goal.decreases-loop-i
decreases-loop-i l = l.i
