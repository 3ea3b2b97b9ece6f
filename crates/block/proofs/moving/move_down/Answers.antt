-- One byte more is moved.
use Rattle.std.proofs.Common.{sym, arith}
use Rattle.text.proofs.Put.{put_none}
use Rattle.block.proofs.Moves.{down_turn}
use Rattle.block.proofs.moving.move_down.Goals as goal

pub loop-i-init : goal.loop-i-init
loop-i-init c = record { moved = sym (put_none _ _) }

pub loop-i-preserved : goal.loop-i-preserved
loop-i-preserved c =
    let a = c.args in
    let s = c.loop-i in
    record { moved = down_turn a.b.now a.from a.n (omega arith) a.to s.b s.i (omega arith) c.loop-i-test.true s.invariant.moved }
