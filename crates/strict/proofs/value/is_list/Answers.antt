-- The numbers are what is left behind the first comma.
use Rattle.std.proofs.Common.{arith}
use Rattle.strict.proofs.Values.{part_to_end, list_cases}
use Rattle.strict.proofs.value.is_list.Goals as goal

pub returns-then-contains : goal.returns-then-contains
returns-then-contains c = let e = rw part_to_end at c.accepts_list.ensures in grind (arith, list_cases)
