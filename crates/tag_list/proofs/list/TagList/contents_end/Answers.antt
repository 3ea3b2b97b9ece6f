-- One tag more is passed.
use Rattle.std.proofs.Common.{arith}
use Rattle.tag_list.proofs.Walk.{left_all, left_none, left_within, left_more}
use Rattle.tag_list.proofs.list.TagList.contents_end.Goals as goal

pub loop-tag-init : goal.loop-tag-init
loop-tag-init c = rw (c.into_iter-tag-iterator.ensures.into_iter_gives, c.entry_start-end.ensures, c.count.ensures.count) (left_all c.args.self.now c.tags-tag-items.ensures.parts)

pub end_of-end-requires : goal.end_of-end-requires
end_of-end-requires c = omega (arith, left_within c.loop-tag.invariant c.in-Some.ensures.steps, c.tags-tag-items.ensures.within)

pub loop-tag-preserved : goal.loop-tag-preserved
loop-tag-preserved c = left_more c.loop-tag.invariant c.in-Some.ensures.steps (grind arith)

pub returns : goal.returns
returns c = left_none c.loop-tag.invariant c.in-None.ensures.steps.0
