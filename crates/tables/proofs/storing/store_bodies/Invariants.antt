-- The bodies left, written behind what was, are all of them written at the start.
use Rattle.std.proofs.Common.{◌≡◌, ◌+◌, map, length, drop}
use Rattle.model.specs.Bytes.{put}
use Rattle.model.specs.Record.{bodies}
use Rattle.sorted.specs.Tables.{body_in}
use Rattle.tables.proofs.storing.store_bodies.Given as goal

abbrev pub invariant-loop-r : goal.invariant-loop-r
invariant-loop-r l = record {
  place : l.p + length (bodies (map (body_in l.pool) (drop l.r-index l.refs))) ≡ l.at + length (bodies (map (body_in l.pool) l.refs));
  output : put l.buffer l.p (bodies (map (body_in l.pool) (drop l.r-index l.refs))) ≡ put l.fn.buffer l.at (bodies (map (body_in l.pool) l.refs));
}
