-- The tags left begin at `end`.
use Rattle.std.proofs.Common.{length}
use Rattle.model.specs.TagList.{tag_contents}
use Rattle.tag_list.specs.Tags.{parts_left}
use Rattle.tag_list.proofs.Walk.{Left}
use Rattle.tag_list.proofs.list.TagList.contents_end.Given as goal

abbrev pub invariant-loop-tag : goal.invariant-loop-tag
invariant-loop-tag l = Left (parts_left l.tag-iterator) l.end (length (tag_contents l.fn.self))
