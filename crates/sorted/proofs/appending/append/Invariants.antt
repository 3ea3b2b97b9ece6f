-- The first blocks are appended.
use Rattle.std.proofs.Common.{◌≡◌, ◌*◌, ◌++◌, take}
use Rattle.sorted.proofs.appending.append.Given as goal

abbrev pub invariant-loop-block : goal.invariant-loop-block
invariant-loop-block g l = l.bytes.items ≡ l.fn.bytes.items ++ take (l.block-index * 16) l.s
