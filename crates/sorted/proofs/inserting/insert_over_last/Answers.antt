-- Those from the place on are moved, and the number comes into the gap.
use Rattle.sorted.proofs.Raised.{placed}
use Rattle.sorted.proofs.inserting.insert_over_last.Goals as goal

pub returns : goal.returns
returns c =
    let r = c.raise_blocks-gap in
    placed c.args.numbers.now r.new.numbers c.raise_each.new.numbers r.result c.args.p c.args.v r.ensures.gap.0 r.ensures.gap.1 r.ensures.raised c.raise_each.ensures
