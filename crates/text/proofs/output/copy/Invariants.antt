-- The first i bytes of s stand in the output, and nothing else has changed.
use Rattle.std.proofs.Common.{◌≡◌, take}
use Rattle.model.specs.Bytes.{put}
use Rattle.text.proofs.output.copy.Given as goal

abbrev pub invariant-loop-i : goal.invariant-loop-i
invariant-loop-i l = record { output : l.out ≡ put l.fn.out l.at (take l.i l.s) }
