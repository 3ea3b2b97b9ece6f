-- The size decides; then the count, and the names behind it.
use Rattle.search.specs.Spans.{named}
use Rattle.path_bytes.proofs.Joined.{path_short, path_written}
use Rattle.path_bytes.proofs.written.FoundPath.write.Goals as goal

pub returns-then-out-at : goal.returns-then-out-at
returns-then-out-at g c = path_short (named (g.N.NodeNames.names c.args.self.names.now)) _ _ _ _ _ c.path_length-step.ensures.0 c.entry_at-at.ensures c.bodies_length.ensures.0 _ c.if-out-at.true

pub returns : goal.returns
returns g c =
    path_written (named (g.N.NodeNames.names c.args.self.names.now)) _ _ _ _ _ c.path_length-step.ensures.0 c.entry_at-at.ensures c.bodies_length.ensures.0 _ c.if-out-at.false _ c.write16.ensures.1 _ _ c.put_names.ensures
