-- One step more is counted, and one fewer is left.
use Rattle.std.proofs.Common.{◌≡◌, ◌<◌, length, arith}
use Rattle.std.proofs.lemmas.List.{get_or_read}
use Rattle.search.specs.Queue.{prev_at}
use Rattle.search.proofs.Reading.{counting_next, counting_end}
use Rattle.search.proofs.path.path_length.Goals as goal

pub loop-j-preserved : goal.loop-j-preserved
loop-j-preserved c =
    let q = c.args.queue.now in
    let inside : c.loop-j.j < length q = omega arith in
    let before : c.from-j.result ≡ prev_at q c.loop-j.j = omega (arith, get_or_read _ _ _ inside c.index-queue-j.is 0) in
    rw before (counting_next _ _ c.requires _ _ c.loop-j.invariant c.loop-j-test.true)

pub returns : goal.returns
returns c = counting_end _ _ c.requires _ _ c.loop-j.invariant (λ z. omega arith)
