-- The last pair read is right, and comes before the next, or is the last of all.
use Rattle.std.proofs.Common.{◌∙◌, sym, ap}
use Rattle.record.specs.Test.{pairs_ok}
use Rattle.record.proofs.Steps.{pairs_ok_none, pairs_ok_last, pairs_ok_more}
use Rattle.record.proofs.test.pairs_ok.Goals as goal

pub returns-in_default : goal.returns-in_default
returns-in_default c = sym (pairs_ok_none c.in_default.ensures.steps.0 c.args.n) ∙ ap (pairs_ok c.args.n) c.new-rest.ensures.value

pub loop-next-init : goal.loop-next-init
loop-next-init c = rw c.into_iter-next-iterator.ensures.into_iter_gives (ap (pairs_ok c.args.n) (sym c.new-rest.ensures.value ∙ c.in-Some.ensures.steps))

pub returns-then-not-is_below : goal.returns-then-not-is_below
returns-then-not-is_below c = sym (c.loop-next.invariant ∙ pairs_ok_more c.args.n c.loop-next.pair c.in-Some-next.ensures.steps ∙ rw (← c.is_below.ensures, c.if-not-is_below.true))

pub returns-then-not-pair_less : goal.returns-then-not-pair_less
returns-then-not-pair_less c =
    sym (c.loop-next.invariant ∙ pairs_ok_more c.args.n c.loop-next.pair c.in-Some-next.ensures.steps
    ∙ rw (← c.is_below.ensures, c.if-not-is_below.false, ← c.pair_less.ensures, c.if-not-pair_less.true))

pub loop-next-preserved : goal.loop-next-preserved
loop-next-preserved c =
    c.loop-next.invariant ∙ pairs_ok_more c.args.n c.loop-next.pair c.in-Some-next.ensures.steps
    ∙ rw (← c.is_below.ensures, c.if-not-is_below.false, ← c.pair_less.ensures, c.if-not-pair_less.false)

pub returns : goal.returns
returns c = c.is_below-2.ensures ∙ sym (c.loop-next.invariant ∙ pairs_ok_last c.args.n c.loop-next.pair c.in-None.ensures.steps.0)
