-- As many as are counted, which is within the sizes.
use Rattle.record.proofs.Meaning.{names_counted, names_most}
use Rattle.record.proofs.record.Record.name_count.Goals as goal

pub returns-clause-value : goal.returns-clause-value
returns-clause-value c = rw (← c.self.view_is) (names_counted _ _ c.self.invariant)

pub returns-clause-most : goal.returns-clause-most
returns-clause-most c = names_most _ _ c.self.invariant
