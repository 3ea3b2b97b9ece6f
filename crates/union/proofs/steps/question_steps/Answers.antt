-- The steps of one kind are those of the question, or those of both kinds are merged.
use Rattle.std.proofs.Common.{arith}
use Rattle.union.proofs.BothKinds.{subgraph_steps, both_mergeable, both_gathered}
use Rattle.union.proofs.steps.question_steps.Goals as goal

pub returns-in-Subgraph : goal.returns-in-Subgraph
returns-in-Subgraph c = rw c.in-Subgraph.is (subgraph_steps _ _ _ _ _ _ c.kind_steps.ensures)

pub merge-requires : goal.merge-requires
merge-requires c =
    let f = c.split_at_mut-first.ensures in
    let s = c.split_at_mut-second.ensures in
    both_mergeable _ _ _ _ _ _ _ _ _ _ c.requires c.kind_steps-subgraphs.ensures c.kind_steps-translations.ensures _ f.front _ s.front f.front_len s.front_len
    _ (omega arith)

pub returns-in-Full : goal.returns-in-Full
returns-in-Full c =
    let f = c.split_at_mut-first.ensures in
    let s = c.split_at_mut-second.ensures in
    rw c.in-Full.is
    (both_gathered _ _ _ _ _ _ _ _ _ _ c.requires c.kind_steps-subgraphs.ensures c.kind_steps-translations.ensures _ f.front _ s.front f.front_len s.front_len
    _ _ (omega arith) c.merge.ensures)
