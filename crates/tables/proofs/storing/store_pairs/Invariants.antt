-- The pairs left, written behind what was, are all of them written at the start.
use Rattle.std.proofs.Common.{◌≡◌, ◌+◌, ◌*◌, map, drop}
use Rattle.model.specs.Layout.{pair_length}
use Rattle.model.specs.Bytes.{put}
use Rattle.record.specs.Coded.{le_pairs}
use Rattle.sorted.specs.Tables.{places_of}
use Rattle.tables.proofs.storing.store_pairs.Given as goal

abbrev pub invariant-loop-pair : goal.invariant-loop-pair
invariant-loop-pair l = record {
  place : l.p ≡ l.at + pair_length * l.pair-index;
  output : put l.buffer l.p (le_pairs (map places_of (drop l.pair-index l.pairs))) ≡ put l.fn.buffer l.at (le_pairs (map places_of l.pairs));
}
