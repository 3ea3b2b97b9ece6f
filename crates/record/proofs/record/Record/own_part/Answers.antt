-- The own number tells where it stands.
use Rattle.std.proofs.Common.{arith}
use Rattle.record.proofs.Own.{number_placed}
use Rattle.record.proofs.Meaning.{own_part_numbered}
use Rattle.record.proofs.record.Record.own_part.Goals as goal

pub returns : goal.returns
returns c = rw (← c.self.view_is) (own_part_numbered _ c.self.invariant.holds _ _ c.part.ensures (grind (arith, number_placed)))
