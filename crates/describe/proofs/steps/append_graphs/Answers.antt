-- The count and the lines go on together, and the last name has the number behind them.
use mathlib.Core.Logic.{inl}
use mathlib.Core.Path.{sym}
use Rattle.std.proofs.Common.{◌≡◌, arith, ap, ◌+◌, length}
use Rattle.text.proofs.Appending.{rest_begin, rest_turn, appends_as}
use Rattle.describe.proofs.Runs.{few_steps, graphs_turn, graphs_end}
use Rattle.describe.proofs.steps.append_graphs.Goals as goal

pub loop-i-init : goal.loop-i-init
loop-i-init c = rw (c.into_iter-i-iterator.ensures.into_iter_gives, c.enumerate-i-items.ensures.source, c.enumerate-i-items.ensures.count) record {
  numbers = omega arith;
  rest = rest_begin (omega (arith, c.ranges.at.fits));
  goes = ((_, _, inl (omega (arith, few_steps c.args.steps.here))), _);
}

pub append_graph-q-requires : goal.append_graph-q-requires
append_graph-q-requires c = omega (arith, c.loop-i.invariant.numbers, few_steps c.args.steps.here, ap length c.in-Some.ensures.steps.0, c.in-Some.ensures.steps.1)

pub loop-i-preserved : goal.loop-i-preserved
loop-i-preserved c =
    let l = c.loop-i in
    let s = c.in-Some.ensures.steps in
    record {
      numbers = omega (arith, l.invariant.numbers, ap length s.0, s.2);
      rest = rest_turn l.invariant.rest (rw (s.2, s.1) (graphs_turn _ s.0 (l.i-iterator.count + 1) c.args.last.now)) c.append_graph-q.ensures;
      goes = ((_, _, inl (omega (arith, l.invariant.numbers, ap length s.0, s.2, few_steps c.args.steps.here))), _);
    }

pub returns : goal.returns
returns c =
    let l = c.loop-i in
    let s = c.in-None.ensures.steps.0.0 in
    let n : c.len-count.result ≡ l.i-iterator.count = omega (arith, l.invariant.numbers, ap length s, c.len-count.ensures.0) in
    l.invariant.rest.makes _ _ (appends_as (sym (graphs_end s _ c.args.last.now)) (rw (← n) c.append_graph.ensures))
