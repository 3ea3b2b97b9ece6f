-- The count and the lines go on together, one step at a time.
use mathlib.Core.Logic.{inl}
use Rattle.std.proofs.Common.{arith, ap, ◌+◌, length}
use Rattle.text.proofs.Appending.{rest_begin, rest_turn, rest_end}
use Rattle.describe.proofs.Runs.{few_steps, lines_turn, lines_end}
use Rattle.describe.proofs.steps.append_relationships.Goals as goal

pub loop-i-init : goal.loop-i-init
loop-i-init c = rw (c.into_iter-i-iterator.ensures.into_iter_gives, c.enumerate-i-items.ensures.source, c.enumerate-i-items.ensures.count) record {
  numbers = omega arith;
  rest = rest_begin (omega (arith, c.ranges.at.fits));
  goes = ((_, _, inl (omega (arith, few_steps c.args.steps.here))), _);
}

pub append_relationship-q-requires : goal.append_relationship-q-requires
append_relationship-q-requires c = omega (arith, c.loop-i.invariant.numbers, few_steps c.args.steps.here, ap length c.in-Some.ensures.steps.0, c.in-Some.ensures.steps.1)

pub loop-i-preserved : goal.loop-i-preserved
loop-i-preserved c =
    let l = c.loop-i in
    let s = c.in-Some.ensures.steps in
    record {
      numbers = omega (arith, l.invariant.numbers, ap length s.0, s.2);
      rest = rest_turn l.invariant.rest (rw (s.2, s.1) (lines_turn _ s.0 (l.i-iterator.count + 1))) c.append_relationship-q.ensures;
      goes = ((_, _, inl (omega (arith, l.invariant.numbers, ap length s.0, s.2, few_steps c.args.steps.here))), _);
    }

pub returns : goal.returns
returns c = rest_end c.loop-i.invariant.rest (lines_end c.in-None.ensures.steps.0.0 _)
