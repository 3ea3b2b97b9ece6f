-- The text of the first pair left, and those of the others.
use Rattle.std.proofs.Common.{arith}
use Rattle.text.proofs.Appending.{rest_begin, rest_turn, rest_end}
use Rattle.export.proofs.Runs.{texts_more, texts_none}
use Rattle.export.proofs.pairs.append_pairs.Goals as goal

pub loop-from-init : goal.loop-from-init
loop-from-init c = rw c.into_iter-from-iterator.ensures.into_iter_gives (rest_begin (omega (arith, c.ranges.at.fits)))

pub loop-from-preserved : goal.loop-from-preserved
loop-from-preserved c = rest_turn c.loop-from.invariant (texts_more _ _ _ c.in-Some.ensures.steps) c.append_pair-q.ensures

pub returns : goal.returns
returns c = rest_end c.loop-from.invariant (texts_none _ _ _ c.in-None.ensures.steps.0)
