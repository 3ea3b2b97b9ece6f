-- What rows of two numbers stand for.
use Rattle.std.specs.Prelude.{List, ℕ, drop}
use Rattle.record.specs.Test.{pairs_at}
use Rattle.record.specs.declared.rows.Rows.{Rows}

-- the rows that are left
abbrev pub rows_of : Rows → List (ℕ × ℕ)
rows_of r = pairs_at r.count (drop r.at r.bytes.now)
