-- Whether all tags are right is whether the last that was read and those left are.
use Rattle.model.specs.TagList.{keys_after}
use Rattle.tag_list.specs.Tags.{parts_from, parts_left}
use Rattle.tag_list.specs.Test.{tags_ok}
use Rattle.tag_list.proofs.Steps.{From}
use Rattle.tag_list.proofs.test.are_tags.Given as goal

abbrev pub invariant-loop-next : goal.invariant-loop-next
invariant-loop-next l = From l.b (tags_ok l.b (keys_after l.count) (parts_from l.b 0 (keys_after l.count) l.count)) l.tag (parts_left l.next-iterator)
