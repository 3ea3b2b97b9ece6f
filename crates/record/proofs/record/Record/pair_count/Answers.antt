-- As many as are counted, which is within the sizes.
use Rattle.std.proofs.Common.{◌∙◌, arith}
use Rattle.record.proofs.Meaning.{pairs_counted, pairs_most}
use Rattle.record.proofs.record.Record.pair_count.Goals as goal

pub returns-clause-value : goal.returns-clause-value
returns-clause-value c = rw (← c.self.view_is) (c.pairs.ensures ∙ pairs_counted _ _ c.self.invariant c.args.kind)

pub returns-clause-most : goal.returns-clause-most
returns-clause-most c = omega (arith, pairs_most _ _ c.self.invariant c.args.kind, c.pairs.ensures)
