-- The nodes so far are indexed, and the steps before place e are theirs.
use Rattle.search.proofs.Beginnings.{Indexing}
use Rattle.search.proofs.graph.index.Given as goal

abbrev pub invariant-loop-node : goal.invariant-loop-node
invariant-loop-node l = Indexing l.steps l.starts l.node l.e
