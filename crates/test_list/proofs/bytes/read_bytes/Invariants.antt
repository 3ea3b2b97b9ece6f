-- Each turn goes on by at least one byte of s.
use Rattle.std.proofs.Common.{length}
use Rattle.test_list.proofs.bytes.read_bytes.Given as goal

abbrev pub decreases-loop-rest : goal.decreases-loop-rest
decreases-loop-rest l = length l.rest
