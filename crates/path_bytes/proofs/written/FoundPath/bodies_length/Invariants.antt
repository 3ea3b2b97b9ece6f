-- The bytes of the names so far, and the path that is left.
use Rattle.std.proofs.Common.{◌≡◌}
use Rattle.search.specs.Spans.{named}
use Rattle.path_bytes.proofs.PathBytes.{Adding}
use Rattle.path_bytes.proofs.written.FoundPath.bodies_length.Given as goal

abbrev pub invariant-loop-path : goal.invariant-loop-path
invariant-loop-path g l = record {
  same_names : l.path.names ≡ l.self.names;
  same_queue : l.path.queue ≡ l.self.queue;
  added : Adding g.N.NodeNames.lengths (named (g.N.NodeNames.names l.self.names.now)) l.self.queue.now l.self.place l.path.place l.total;
}

abbrev pub decreases-loop-path : goal.decreases-loop-path
decreases-loop-path g l = l.path.place
