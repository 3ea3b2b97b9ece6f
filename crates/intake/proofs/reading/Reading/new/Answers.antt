-- Nothing is held.
use Rattle.sorted.proofs.Unused.{fresh_good}
use Rattle.intake.proofs.reading.Reading.new.Goals as goal

pub invariant_of-result : goal.invariant_of-result
invariant_of-result c = rw c.new.ensures fresh_good
