-- One block more, and what is left behind the blocks.
use Rattle.std.proofs.Common.{arith, length, ◌/◌}
use Rattle.std.proofs.lemmas.Grind.{common_steps}
use Rattle.sorted.proofs.Chunks.{chunk_more, chunks_all}
use Rattle.sorted.proofs.appending.append.Goals as goal

pub loop-block-preserved : goal.loop-block-preserved
loop-block-preserved g c =
    chunk_more 16 (length c.args.s.now / 16) c.loop-block.block-index c.args.bytes.now.items c.args.s.now c.loop-block.invariant c.as_chunks.result.0.now _
    (omega (arith, c.as_chunks.ensures.front_len)) c.as_chunks.ensures.front (rw c.unwrap.ensures at c.try_extend_from_slice.ensures.ok)

pub returns : goal.returns
returns g c =
    chunks_all 16 (length c.args.s.now / 16) c.loop-block.block-index c.args.bytes.now.items c.args.s.now c.loop-block.invariant c.as_chunks.result.1.now
    (omega (arith, c.as_chunks.ensures.front_len)) c.as_chunks.ensures.back (grind (arith, common_steps, c.append_few.ensures))
