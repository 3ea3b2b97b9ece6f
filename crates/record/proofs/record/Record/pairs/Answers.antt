-- A record is judged, and so its names are short.
use Rattle.record.proofs.Listing.{short_held}
use Rattle.record.proofs.record.Record.pairs.Goals as goal

pub returns-clause-short : goal.returns-clause-short
returns-clause-short c = rw (← c.self.view_is) (short_held c.self.inside.reader.bytes.now c.self.invariant.holds)
