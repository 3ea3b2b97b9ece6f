-- Nothing is held.
use Rattle.sorted.proofs.Unused.{fresh_kept, fresh_good}
use Rattle.sorted.proofs.tables.Tables.clear.Goals as goal

pub invariant_of-self : goal.invariant_of-self
invariant_of-self g c = (rw (c.clear.ensures, c.clear-2.ensures, c.clear-3.ensures, c.clear-4.ensures) fresh_kept, c.self.invariant.1, c.self.invariant.2)

pub returns-clause-good : goal.returns-clause-good
returns-clause-good g c = rw (c.clear.ensures, c.clear-2.ensures, c.clear-3.ensures, c.clear-4.ensures) fresh_good
