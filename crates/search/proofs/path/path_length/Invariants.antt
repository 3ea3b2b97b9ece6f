-- The steps from place j on are counted.
use Rattle.search.proofs.Reading.{Counting}
use Rattle.search.proofs.path.path_length.Given as goal

abbrev pub invariant-loop-j : goal.invariant-loop-j
invariant-loop-j l = Counting l.queue l.place l.j l.n

abbrev pub decreases-loop-j : goal.decreases-loop-j
decreases-loop-j l = l.j
