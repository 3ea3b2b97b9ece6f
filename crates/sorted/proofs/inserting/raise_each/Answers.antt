-- None is moved, and one more is.
use Rattle.std.proofs.Common.{arith}
use Rattle.sorted.proofs.Raised.{raised_none, raised_one}
use Rattle.sorted.proofs.inserting.raise_each.Goals as goal

pub loop-i-init : goal.loop-i-init
loop-i-init c = record { from = omega arith; within = omega arith; moved = raised_none c.args.numbers.now c.args.gap (omega arith) }

pub loop-i-preserved : goal.loop-i-preserved
loop-i-preserved c = record {
  from = omega arith;
  within = omega arith;
  moved = raised_one c.args.numbers.now c.args.gap (omega arith) c.loop-i.i c.loop-i.numbers (omega arith) c.loop-i.invariant.within c.loop-i.invariant.moved;
}
