-- The value is what is left behind the second colon.
use Rattle.std.proofs.Common.{arith}
use Rattle.std.proofs.lemmas.Bool.Decides.{nat_tests}
use Rattle.model.specs.Strict.{fine_field}
use Rattle.strict.proofs.Values.{part_to_end}
use Rattle.strict.proofs.value.fine_field.Goals as goal

pub returns-then-holds-2 : goal.returns-then-holds-2
unfolding fine_field
returns-then-holds-2 c = let e = rw part_to_end at c.fine_value.ensures in grind (arith, nat_tests)
