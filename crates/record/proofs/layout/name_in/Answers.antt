-- The part that the entry at place i tells of.
use Rattle.std.proofs.Common.{arith}
use Rattle.model.specs.Layout.{name_at}
use Rattle.record.proofs.layout.name_in.Goals as goal

pub returns : goal.returns
unfolding name_at
returns c = grind arith
