-- The last tag read is right, and comes before the next, or is the last of all.
use Rattle.std.proofs.Common.{◌∙◌, sym, ap, arith, ℕ, drop}
use Rattle.model.specs.TagList.{keys_after}
use Rattle.text.specs.Blocks.{all_zero}
use Rattle.tag_list.proofs.Listing.{length_parts}
use Rattle.tag_list.proofs.Steps.{none_left, from_first, wrong, end_within, last, unordered, further}
use Rattle.tag_list.proofs.test.are_tags.Goals as goal

pub returns-in_default : goal.returns-in_default
returns-in_default c =
    c.zeros_from.ensures
    ∙ rw c.entry_start.ensures (sym (none_left c.args.b.now (keys_after c.args.count) (sym c.of-rest.ensures.parts ∙ c.in_default.ensures.steps.0)))

pub loop-next-init : goal.loop-next-init
loop-next-init c =
    rw (c.into_iter-next-iterator.ensures.into_iter_gives)
    (from_first c.args.b.now (keys_after c.args.count) (sym c.of-rest.ensures.parts ∙ c.in-Some.ensures.steps) (rw c.of-rest.ensures.parts at c.of-rest.ensures.follow)
    (omega (arith, length_parts c.args.b.now 0 (keys_after c.args.count) c.args.count, c.requires.1)))

pub returns-then-not-is_tag : goal.returns-then-not-is_tag
returns-then-not-is_tag c = sym (wrong c.loop-next.invariant (sym c.is_tag.ensures ∙ c.if-not-is_tag.true))

pub returns-then-not-is_before : goal.returns-then-not-is_before
returns-then-not-is_before c =
    sym (unordered c.loop-next.invariant (sym c.is_tag.ensures ∙ c.if-not-is_tag.false) c.in-Some-next.ensures.steps (sym c.is_before.ensures ∙ c.if-not-is_before.true))

pub loop-next-preserved : goal.loop-next-preserved
loop-next-preserved c =
    further c.loop-next.invariant (sym c.is_tag.ensures ∙ c.if-not-is_tag.false) c.in-Some-next.ensures.steps (sym c.is_before.ensures ∙ c.if-not-is_before.false)

pub returns-then-not-is_tag-2 : goal.returns-then-not-is_tag-2
returns-then-not-is_tag-2 c = sym (wrong c.loop-next.invariant (sym c.is_tag-2.ensures ∙ c.if-not-is_tag-2.true))

pub zeros_from-requires-2 : goal.zeros_from-requires-2
zeros_from-requires-2 c = omega (arith, c.end_of-end.ensures, end_within c.loop-next.invariant (sym c.is_tag-2.ensures ∙ c.if-not-is_tag-2.false), c.requires.0)

pub returns : goal.returns
returns c =
    c.zeros_from-2.ensures
    ∙ ap (λ (end : ℕ). all_zero (drop end c.args.b.now)) c.end_of-end.ensures
    ∙ sym (last c.loop-next.invariant (sym c.is_tag-2.ensures ∙ c.if-not-is_tag-2.false) c.in-None.ensures.steps.0)
