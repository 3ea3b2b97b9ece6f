-- The first bytes are lowered.
use Rattle.std.proofs.Common.{◌≡◌, map, take}
use Rattle.std.specs.Char.{to_ascii_lowercase}
use Rattle.tag_list.proofs.key.Key.lowered.Given as goal

abbrev pub invariant-loop-x : goal.invariant-loop-x
invariant-loop-x l = l.bytes.items ≡ map to_ascii_lowercase (take l.x-index l.key)
