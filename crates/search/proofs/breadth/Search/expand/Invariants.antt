-- The steps of the node that are passed are done.
use Rattle.std.proofs.Common.{◌+◌, length, get_or}
use Rattle.search.proofs.Turn.{Turning}
use Rattle.search.proofs.breadth.Search.expand.Given as goal

abbrev pub invariant-loop-step : goal.invariant-loop-step
invariant-loop-step l =
    Turning l.graph.steps.now l.graph.starts.now l.place l.node l.fn.self.queue.now l.found (length l.fn.self.places.now) l.self.queue.now l.self.places.now l.count
    (get_or l.graph.starts.now l.node 0 + l.step-index)
