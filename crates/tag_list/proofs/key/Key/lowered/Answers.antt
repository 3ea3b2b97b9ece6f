-- There is room for one byte more, and in the end the key is ready.
use Rattle.std.proofs.Common.{◌<◌, ◌∙◌, length, rules, sym}
use Rattle.model.specs.TagList.{max_key}
use Rattle.tag_list.proofs.KeyBytes.{lowered_room, lowered_ready}
use Rattle.tag_list.proofs.key.Key.lowered.Goals as goal

pub push-requires : goal.push-requires
push-requires c =
    let l = c.loop-x in
    let h : length l.bytes.items < max_key =
    lowered_room c.args.key.now l.bytes.items l.x-index l.invariant (sym c.is_fine_key.ensures ∙ c.if-not-is_fine_key.false) c.loop-x-test.true in
    (search rules, h)

pub returns : goal.returns
returns c =
    let l = c.loop-x in
    lowered_ready c.args.key.now l.bytes.items l.x-index l.invariant (sym c.is_fine_key.ensures ∙ c.if-not-is_fine_key.false) c.loop-x-test.false
