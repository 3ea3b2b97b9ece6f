-- What a step leaves are pairs of the same names.
use Rattle.record.proofs.Listing.{has_left}
use Rattle.record.proofs.pairs.PairsIterator.next.Goals as goal

pub invariant_of-self : goal.invariant_of-self
invariant_of-self c = let p = c.args.self.now in record { within = has_left p.bytes.now _ c.next.ensures.steps p.bodies p.within }
