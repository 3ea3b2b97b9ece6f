-- The first pair left is put in, for which there is room.
use Rattle.std.proofs.Common.{rules}
use Rattle.tables.proofs.Merge.{putting_start, putting_room, putting_turn, putting_end}
use Rattle.tables.proofs.merging.add_pairs.Goals as goal

pub loop-from-init : goal.loop-from-init
loop-from-init g c =
    rw (c.into_iter-from-iterator.ensures.into_iter_gives, c.pairs-from-items.ensures.value) (putting_start c.args.kind _ _ c.requires.kept)

pub put_pair-requires : goal.put_pair-requires
put_pair-requires g c =
    (search rules, putting_room c.loop-from.invariant c.in-Some.ensures.steps _ _ _ c.pairs-from-items.ensures.short c.requires.merge_room)

pub loop-from-preserved : goal.loop-from-preserved
loop-from-preserved g c = putting_turn c.loop-from.invariant c.in-Some.ensures.steps _ c.put_pair.ensures

pub returns : goal.returns
returns g c = putting_end c.loop-from.invariant c.in-None.ensures.steps.0
