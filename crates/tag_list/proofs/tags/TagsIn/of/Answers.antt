-- Two numbers of four bytes each are no large numbers.
use Rattle.std.proofs.Common.{arith}
use Rattle.tag_list.proofs.Listing.{follow_parts}
use Rattle.tag_list.proofs.tags.TagsIn.of.Goals as goal

pub returns-clause-follow : goal.returns-clause-follow
returns-clause-follow c = rw c.entry_start.ensures (follow_parts c.args.block.now (λ i. omega (arith, c.type_inv.block i)) _ _ _)
