-- As the buffer has it.
use Rattle.std.proofs.lemmas.Grind.{common_steps}
use Rattle.std.proofs.Common.{arith}
use Rattle.record.proofs.Meaning.{own_placed}
use Rattle.record.proofs.record.Record.own_place.Goals as goal

pub returns : goal.returns
returns c = rw (← c.self.view_is) (own_placed _ c.self.invariant.holds _ (grind (arith, common_steps)))
