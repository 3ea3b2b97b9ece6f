-- The two places of the pair tell where its names stand.
use Rattle.record.proofs.Meaning.{pairs_head, pair_parts_there}
use Rattle.record.proofs.record.Record.pair_parts.Goals as goal

pub returns : goal.returns
returns c =
    let r = c.self.invariant in
    let k = c.args.kind in
    rw (← c.self.view_is)
    (pair_parts_there _ r.holds k c.args.i _ _ (rw (← pairs_head _ _ r k, ← c.pairs.ensures) c.if-pairs-i.false)
    (rw (← c.pair_at-at.ensures, ← c.pair_from.ensures.0) c.part.ensures) (rw (← c.pair_at-at.ensures, ← c.pair_to.ensures.0) c.part-2.ensures))
