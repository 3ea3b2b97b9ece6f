-- Nothing is held.
use Rattle.sorted.proofs.Unused.{fresh_kept}
use Rattle.sorted.proofs.tables.Tables.new.Goals as goal

pub invariant_of-result : goal.invariant_of-result
invariant_of-result g c = (rw (c.new.ensures, c.new-2.ensures, c.new-3.ensures, c.new-4.ensures) fresh_kept, c.requires.0, c.requires.1)
