-- The first pairs are renumbered, and the others are as they were.
use Rattle.std.proofs.Common.{◌≡◌, ◌++◌, map, take, drop}
use Rattle.sorted.specs.Sorted.{renumbered}
use Rattle.sorted.proofs.numbers.renumber.Given as goal

abbrev pub invariant-loop-pair : goal.invariant-loop-pair
invariant-loop-pair l = l.pair-items ≡ map (renumbered l.p) (take l.pair-index l.initial.pair-items) ++ drop l.pair-index l.initial.pair-items
