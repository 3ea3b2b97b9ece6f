-- One byte more is moved.
use Rattle.std.proofs.Common.{arith}
use Rattle.block.proofs.Moves.{up_none, up_turn}
use Rattle.block.proofs.moving.move_up.Goals as goal

pub loop-i-init : goal.loop-i-init
loop-i-init c = record { moved = up_none c.args.b.now c.args.from c.args.n (omega arith) c.args.to }

pub loop-i-preserved : goal.loop-i-preserved
loop-i-preserved c =
    let a = c.args in
    let s = c.loop-i in
    record { moved = up_turn a.b.now a.from a.n (omega arith) a.to s.b s.i (omega arith) (omega arith) (omega arith) (omega arith) s.invariant.moved }
