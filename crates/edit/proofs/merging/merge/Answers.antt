-- The pairs of one kind are put in, and then those of the other.
use Rattle.std.proofs.Common.{rules}
use Rattle.edit.proofs.MergeAll.{second_merge, merged_both}
use Rattle.edit.proofs.merging.merge.Goals as goal

pub add_pairs-requires-in-Some : goal.add_pairs-requires-in-Some
add_pairs-requires-in-Some g c =
    (search rules, (c.add_pairs.ensures.kept, second_merge _ _ _ _ _ c.requires.kept (rw c.in-Some.is at c.requires.room) _ c.add_pairs.ensures))

pub returns-in-Some : goal.returns-in-Some
returns-in-Some g c =
    rw c.in-Some.is
    (merged_both g.row.NAMES g.row.PAIRS g.row.BYTES _ _ c.requires.kept (rw c.in-Some.is at c.requires.room) _ c.add_pairs.ensures _ c.add_pairs-in-Some.ensures)
