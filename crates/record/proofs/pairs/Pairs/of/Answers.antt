-- They stand where the record has them.
use Rattle.record.proofs.Listing.{kind_named, pairs_held}
use Rattle.record.proofs.pairs.Pairs.of.Goals as goal

pub invariant_of-result : goal.invariant_of-result
invariant_of-result c =
    record { within = pairs_held c.args.bytes.now c.requires c.args.kind _ _ c.bodies_at.ensures.0 c.bodies_at.ensures.1 c.pairs.ensures.value }

pub returns : goal.returns
returns c = rw c.pairs.ensures.value (kind_named c.args.bytes.now c.args.kind)
