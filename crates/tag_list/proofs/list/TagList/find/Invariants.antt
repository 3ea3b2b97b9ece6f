-- The key is among the tags left where it is among all.
use Rattle.tag_list.specs.Tags.{parts_left}
use Rattle.tag_list.proofs.Walk.{Ahead}
use Rattle.tag_list.proofs.list.TagList.find.Given as goal

abbrev pub invariant-loop-place : goal.invariant-loop-place
invariant-loop-place l = record {
  ahead : Ahead l.key l.self-inside.block.now l.place-iterator.count (parts_left l.place-iterator.iter);
  goes : (goal.iterator-loop-place).can_next l.place-iterator × (goal.iterator-loop-place).is_finite l.place-iterator;
}
