-- The parts of a list's tags, by place, are what the model gives at each.
use Rattle.std.proofs.Common.{length}
use Rattle.std.proofs.lemmas.Iterator.Consumers.{nth_from_yields_List, YieldsList-from_first}
use Rattle.model.specs.TagList.{keys_after}
use Rattle.tag_list.specs.Tags.{parts_left}
use Rattle.tag_list.proofs.Walk.{parts_place}
use Rattle.tag_list.proofs.list.TagList.tag_parts.Goals as goal

pub returns : goal.returns
returns c =
    let ts = c.args.self.now in
    parts_place (keys_after (length ts)) ts c.args.place c.nth.result
    (nth_from_yields_List c.nth.result c.nth.new.self c.args.place c.nth.ensures.ran (YieldsList-from_first (λ x. x) parts_left _ c.tags.ensures.parts))
