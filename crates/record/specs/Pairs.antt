-- What pairs that are left to read stand for.
use Rattle.std.specs.Prelude.{List, ℕ, map}
use Rattle.std.specs.Borrow.{Bor}
use Rattle.model.specs.Bytes.{Bytes}
use Rattle.model.specs.Record.{Pair}
use Rattle.model.specs.Layout.{name_at}
use Rattle.record.specs.Rows.{rows_of}
use Rattle.record.specs.declared.pairs.Pairs.{Pairs}

-- two names as a pair
abbrev pub pair_of : Bor Bytes × Bor Bytes → Pair
pair_of p = record { from = p.0.now; to = p.1.now }

-- the names at the two places of a row
abbrev pub named : Bytes → ℕ × ℕ → Pair
named b p = record { from = name_at b p.0; to = name_at b p.1 }

abbrev pub pairs_left : Pairs → List Pair
pairs_left p = map (named p.bytes.now) (rows_of p.rows)
