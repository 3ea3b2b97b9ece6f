-- The entry at the place tells where it stands.
use Rattle.record.proofs.Meaning.{part_there}
use Rattle.record.proofs.record.Record.part.Goals as goal

pub returns : goal.returns
returns c =
    let r = c.self.invariant in
    rw (← c.self.view_is) (part_there _ r.holds c.args.i _ (rw (← r.head.names.0) c.if-self-i.false) c.part.ensures)
