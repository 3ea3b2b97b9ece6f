-- All steps of the places before the next one are done, and the target stands at none of them.
use Rattle.std.proofs.Common.{◌-◌, length}
use Rattle.search.specs.Steps.{leads}
use Rattle.search.proofs.Looking.{Looking}
use Rattle.search.proofs.breadth.Search.run.Given as goal

abbrev pub invariant-loop-taken : goal.invariant-loop-taken
invariant-loop-taken l = Looking (leads l.graph.steps.now) (length l.fn.self.places.now) l.from l.target l.self.queue.now l.self.places.now l.found l.taken

abbrev pub decreases-loop-taken : goal.decreases-loop-taken
decreases-loop-taken l = length l.fn.self.places.now - l.taken
