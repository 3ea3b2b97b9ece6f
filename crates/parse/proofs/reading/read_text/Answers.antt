-- The end of the text (`Ongoing`).
use Rattle.parse.proofs.Ongoing.{reading_ends}
use Rattle.parse.proofs.reading.read_text.Goals as goal

pub returns-clause-reading : goal.returns-clause-reading
returns-clause-reading c = reading_ends c.loop-field.invariant c.in_default.ensures.done.0 c.in_default.ensures.done.1
