-- Both rows are read one behind the other, and merged.
use Rattle.std.proofs.Common.{arith}
use Rattle.union.proofs.Rows.{first_rowable, second_rowable, rows_mergeable, rows_gathered}
use Rattle.union.proofs.steps.kind_steps.Goals as goal

pub read_row-requires : goal.read_row-requires
read_row-requires c = (first_rowable _ _ _ _ _ _ _ c.requires, omega arith)

pub read_row-requires-2 : goal.read_row-requires-2
read_row-requires-2 c = (second_rowable _ _ _ _ _ _ _ c.requires, omega arith)

pub merge-requires : goal.merge-requires
merge-requires c = rows_mergeable _ _ _ _ _ _ _ c.requires _ _ c.read_row.ensures c.read_row-2.ensures

pub returns : goal.returns
returns c = rows_gathered _ _ _ _ _ _ _ c.requires _ _ c.read_row.ensures c.read_row-2.ensures _ _ c.merge.auto.out c.merge.ensures
