-- The entries left, written behind what was, are all of them written at the start.
use Rattle.std.proofs.Common.{◌≡◌, ◌+◌, ◌*◌, ◌≤◌, map, drop}
use Rattle.model.specs.Layout.{entry_length, entries}
use Rattle.model.specs.Bytes.{put}
use Rattle.sorted.specs.Tables.{body_in}
use Rattle.tables.proofs.storing.store_entries.Given as goal

abbrev pub invariant-loop-r : goal.invariant-loop-r
invariant-loop-r l = record {
  place : l.p ≡ l.at + entry_length * l.r-index;
  bounded : l.start ≤ 65536 * l.r-index;
  output : put l.buffer l.p (entries l.start (map (body_in l.pool) (drop l.r-index l.refs))) ≡ put l.fn.buffer l.at (entries 0 (map (body_in l.pool) l.refs));
}
