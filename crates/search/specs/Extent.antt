-- Where a name stands, and how long it may be.
use Rattle.std.specs.Prelude.{ℕ}
use Rattle.search.specs.declared.names.Span.{Span}

-- lengths are numbers below this
abbrev pub span_lengths : ℕ
span_lengths = 512

-- where a name starts, and its length, in spans of either kind
abbrev pub Extent : Type 0
Extent = Span
