-- One pair more is renumbered.
use Rattle.std.proofs.Common.{arith}
use Rattle.std.proofs.lemmas.List.{get_or_default}
use Rattle.std.proofs.lemmas.List.Edits.{map_over_more}
use Rattle.sorted.specs.Sorted.{renumbered}
use Rattle.sorted.proofs.Renumber.{small_next}
use Rattle.sorted.proofs.numbers.renumber.Goals as goal

pub renumbered-requires : goal.renumbered-requires
renumbered-requires c = small_next c.args.p c.loop-pair.pair-index c.args.pairs.now _ c.requires c.loop-pair-test.true c.loop-pair.invariant

pub loop-pair-preserved : goal.loop-pair-preserved
loop-pair-preserved c = rw c.renumbered.ensures (map_over_more (renumbered c.args.p) c.args.pairs.now _ _ _ c.loop-pair-test.true c.loop-pair.invariant (get_or_default c.loop-pair.pair-items c.loop-pair.pair-index 0 _ (omega arith)))
