-- All places below the count are marked exactly if all are used.
use Rattle.std.proofs.Common.{◌∙◌, ◌+◌, ◌*◌, drop, rules}
use Rattle.model.specs.Record.{max_names}
use Rattle.model.specs.Layout.{pair_length, entry_at}
use Rattle.record.specs.Test.{pairs_at}
use Rattle.record.proofs.Words.{under_weaken}
use Rattle.record.proofs.Marks.{marks_used}
use Rattle.record.proofs.test.all_used.Goals as goal

pub mark_pairs-requires : goal.mark_pairs-requires
mark_pairs-requires c = rw (c.new.ensures.value, c.entry_at-subgraph.ensures) (under_weaken c.args.head.names _ _ (search rules) c.requires.under.0)

pub mark_pairs-requires-2 : goal.mark_pairs-requires-2
mark_pairs-requires-2 c = rw (c.new-2.ensures.value, c.entry_at-subgraph.ensures) (under_weaken c.args.head.names _ _ (search rules) c.requires.under.1)

pub returns : goal.returns
returns c =
    let h = c.args.head in
    let b = c.args.b.now in
    c.all_marked.ensures
    ∙ rw (c.mark_pairs-2.ensures, c.mark_pairs.ensures, c.new-2.ensures.value, c.new.ensures.value, c.mark_own.ensures, c.filled-used.ensures, c.entry_at-subgraph.ensures)
    (marks_used h.own (pairs_at h.subgraph (drop (entry_at h.names) b)) (pairs_at h.translation (drop (entry_at h.names + pair_length * h.subgraph) b)) h.names max_names c.requires.sizes.0 c.requires.sizes.1 c.requires.under.0 c.requires.under.1)
