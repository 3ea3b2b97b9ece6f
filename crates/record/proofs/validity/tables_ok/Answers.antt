-- The tests in the order of the definition.
use Rattle.std.proofs.Common.{arith, ◌+◌, ◌*◌, sym, ◌∙◌}
use Rattle.model.specs.Layout.{pair_length, entry_at}
use Rattle.record.specs.Test.{tables_ok}
use Rattle.record.proofs.Refusals.{pairs_under}
use Rattle.record.proofs.validity.tables_ok.Goals as goal

pub returns-then-not-pairs_ok : goal.returns-then-not-pairs_ok
unfolding tables_ok
returns-then-not-pairs_ok c = grind arith

pub returns-then-not-pairs_ok-2 : goal.returns-then-not-pairs_ok-2
unfolding tables_ok
returns-then-not-pairs_ok-2 c = grind arith

pub returns-then-not-names_ascend : goal.returns-then-not-names_ascend
unfolding tables_ok
returns-then-not-names_ascend c = grind arith

pub all_used-requires-clause-under : goal.all_used-requires-clause-under
all_used-requires-clause-under c =
    let h = c.args.head in
    let b = c.args.b.now in
    let s = c.entry_at-subgraph.ensures in (
      pairs_under h.names b h.subgraph (entry_at h.names) (rw s at (sym c.pairs_ok.ensures ∙ c.if-not-pairs_ok.false)),
      pairs_under h.names b h.translation (entry_at h.names + pair_length * h.subgraph) (rw s at (sym c.pairs_ok-2.ensures ∙ c.if-not-pairs_ok-2.false)),
    )

pub returns : goal.returns
unfolding tables_ok
returns c = grind arith
