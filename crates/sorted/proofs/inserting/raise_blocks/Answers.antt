-- None is moved, and one block more is.
use Rattle.std.proofs.Common.{◌-◌, arith, length}
use Rattle.sorted.proofs.Raised.{raised_none, raised_block}
use Rattle.sorted.proofs.inserting.raise_blocks.Goals as goal

pub loop-gap-init : goal.loop-gap-init
loop-gap-init c =
    let b = c.args.numbers.now in
    record { from = omega arith; within = omega arith; moved = raised_none b (length b - 1) (omega arith) }

pub loop-gap-preserved : goal.loop-gap-preserved
loop-gap-preserved c =
    let b = c.args.numbers.now in
    let l = c.loop-gap in
    record {
      from = omega arith;
      within = omega arith;
      moved = rw c.copy_within.ensures.after (raised_block b (length b - 1) (omega arith) 32 l.gap l.numbers (omega arith) (omega arith) l.invariant.moved);
    }
