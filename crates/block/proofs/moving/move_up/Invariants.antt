-- The bytes from place i on stand at their new place, and nothing else has changed.
use Rattle.std.proofs.Common.{◌≡◌, ◌+◌, take, drop}
use Rattle.model.specs.Bytes.{put}
use Rattle.block.proofs.moving.move_up.Given as goal

abbrev pub invariant-loop-i : goal.invariant-loop-i
invariant-loop-i l = record { moved : l.b ≡ put l.fn.b (l.to + l.i) (drop l.i (take l.n (drop l.from l.fn.b))) }
