-- One byte more is written.
use Rattle.std.proofs.Common.{sym}
use Rattle.text.proofs.Put.{put_none, put_copy}
use Rattle.text.proofs.output.copy.Goals as goal

pub loop-i-init : goal.loop-i-init
loop-i-init c = record { output = sym (put_none _ _) }

pub loop-i-preserved : goal.loop-i-preserved
loop-i-preserved c = record {
  output = put_copy c.args.out.now c.args.at c.args.s.now c.loop-i.out c.loop-i.i c.requires c.loop-i-test.true c.loop-i.invariant.output;
}
