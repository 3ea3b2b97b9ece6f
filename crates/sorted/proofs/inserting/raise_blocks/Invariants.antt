-- Those from the gap on stand one place further up; those before it stand where they stood.
use Rattle.std.proofs.Common.{◌≡◌, ◌≤◌, ◌<◌, ◌-◌, length}
use Rattle.sorted.specs.Sorted.{raised}
use Rattle.sorted.proofs.inserting.raise_blocks.Given as goal

abbrev pub invariant-loop-gap : goal.invariant-loop-gap
invariant-loop-gap l = record { from : l.p ≤ l.gap; within : l.gap < length l.fn.numbers; moved : l.numbers ≡ raised l.fn.numbers (length l.fn.numbers - 1) l.gap }

abbrev pub decreases-loop-gap : goal.decreases-loop-gap
decreases-loop-gap l = l.gap
