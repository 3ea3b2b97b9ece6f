-- What is cleared is a list again, and has room for what is set.
use Rattle.std.proofs.Common.{◌≡◌, sym, ◌∙◌, arith}
use Rattle.model.specs.TagList.{encode_tags, shown_tags}
use Rattle.graph_tags.specs.Change.{cleared}
use Rattle.graph_tags.proofs.Putting.{three_short, three_fit, three_full, three_few, three_judged, cleared_same, cleared_is, cleared_shown}
use Rattle.graph_tags.proofs.three.put_three.Goals as goal

pub returns-then-is_full_then : goal.returns-then-is_full_then
returns-then-is_full_then c =
    let cs = c.three_changes-changes in
    let b = c.args.list.now in
    let full = three_full cs.result _ _ _ cs.ensures b c.requires.listed c.of.result c.of.ensures (sym c.is_full_then.ensures ∙ c.if-is_full_then.true) in
    record { value = rw full; list_after = rw full }

pub clear_absent-requires : goal.clear_absent-requires
clear_absent-requires c = (c.requires.listed, λ k d l. grind (arith, three_short))

pub fill_present-requires : goal.fill_present-requires
fill_present-requires c =
    let r = c.requires in
    let cs = c.three_changes-changes in
    let b = c.args.list.now in
    let after : c.clear_absent.new.list ≡ encode_tags (cleared cs.result (shown_tags b)) =
    grind (arith, cleared_same cs.result _ _ _ cs.ensures (shown_tags b)) in (
      rw after (cleared_is cs.result _ _ _ cs.ensures b r.listed),
      three_fit cs.result _ _ _ cs.ensures r.name r.subgraph r.translation,
      rw (after, cleared_shown cs.result _ _ _ cs.ensures b r.listed)
          (three_few cs.result _ _ _ cs.ensures b r.listed c.of.result c.of.ensures (sym c.is_full_then.ensures ∙ c.if-is_full_then.false)),
    )

pub returns : goal.returns
returns c =
    let cs = c.three_changes-changes in
    let b = c.args.list.now in
    let few = three_few cs.result _ _ _ cs.ensures b c.requires.listed c.of.result c.of.ensures (sym c.is_full_then.ensures ∙ c.if-is_full_then.false) in
    let done = three_judged cs.result _ _ _ cs.ensures b c.requires.listed few in
    let after : c.clear_absent.new.list ≡ encode_tags (cleared cs.result (shown_tags b)) =
    grind (arith, cleared_same cs.result _ _ _ cs.ensures (shown_tags b)) in
    record { value = rw done; list_after = c.fill_present.ensures ∙ rw (done, after, cleared_shown cs.result _ _ _ cs.ensures b c.requires.listed) }
