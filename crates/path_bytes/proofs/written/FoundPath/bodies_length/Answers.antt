-- A name is counted, and the path goes back by one.
use Rattle.std.proofs.Common.{◌≡◌, ◌∙◌, arith}
use Rattle.search.specs.Queue.{node_at}
use Rattle.search.specs.Spans.{named}
use Rattle.path_bytes.proofs.PathBytes.{adding_few, adding_step, adding_end}
use Rattle.path_bytes.proofs.written.FoundPath.bodies_length.Goals as goal

pub loop-path-preserved : goal.loop-path-preserved
loop-path-preserved g c =
    let i = c.loop-path.invariant in
    let b = c.before-path.ensures in
    let last : c.name.result.now ≡ named (g.N.NodeNames.names c.args.self.names.now) (node_at c.args.self.queue.now c.loop-path.path.place) =
    rw (i.same_names, i.same_queue) at c.name.ensures.0 in
    record {
      same_names = b.0 ∙ i.same_names;
      same_queue = b.1 ∙ i.same_queue;
      added = rw (b.2, i.same_queue) (adding_step _ _ _ _ c.requires.back _ _ i.added _ last c.name.ensures.1 c.loop-path-test.true);
    }

pub returns : goal.returns
returns g c =
    let i = c.loop-path.invariant in
    let last : c.name-2.result.now ≡ named (g.N.NodeNames.names c.args.self.names.now) (node_at c.args.self.queue.now c.loop-path.path.place) =
    rw (i.same_names, i.same_queue) at c.name-2.ensures.0 in (
      adding_end _ _ _ _ c.requires.back _ _ i.added _ last (omega arith) _ (omega arith),
      omega (arith, adding_few _ _ _ _ _ _ i.added c.requires.small _ c.name-2.ensures.1),
    )
