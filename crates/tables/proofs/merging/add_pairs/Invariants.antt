-- All pairs are in but those that are left, and the names are among those of both.
use Rattle.record.specs.Pairs.{pairs_left}
use Rattle.tables.proofs.Merge.{Putting}
use Rattle.tables.proofs.merging.add_pairs.Given as goal

abbrev pub invariant-loop-from : goal.invariant-loop-from
invariant-loop-from g l = Putting l.kind l.fn.tables l.other (pairs_left l.from-iterator) l.tables
