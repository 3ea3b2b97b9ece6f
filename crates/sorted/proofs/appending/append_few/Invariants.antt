-- The first bytes are appended.
use Rattle.std.proofs.Common.{◌≡◌, ◌++◌, take}
use Rattle.sorted.proofs.appending.append_few.Given as goal

abbrev pub invariant-loop-x : goal.invariant-loop-x
invariant-loop-x g l = l.bytes.items ≡ l.fn.bytes.items ++ take l.x-index l.s
