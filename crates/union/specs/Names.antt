-- The names of two records as one row of spans, ascending by name, none twice; and the numbers of the names by place in each record. A short
-- span of the code is seen as any span is.
use Rattle.std.specs.Prelude.{◌≡◌, cond, List, ℕ, ◌+◌, ◌≤◌, ◌<◌, length, get_or, leb}
use Rattle.std.specs.declared.cmp.Ordering.{Ordering}
use Rattle.std.specs.declared.cmp.Ordering.TheVariants.{Less, Greater}
use Rattle.model.specs.Bytes.{Bytes, compare_bytes}
use Rattle.model.specs.Layout.{name_count, bodies_at, body_start, body_length, name_at}
use Rattle.search.specs.declared.names.Span.{Span}
use Rattle.search.specs.Spans.{name_by}
use Rattle.search.specs.Names.{InOrder}

-- the span of the name at place i of a record that stands behind `before` bytes
abbrev pub span_at : ℕ → Bytes → ℕ → Span
span_at before b i = record { start = before + (bodies_at b + body_start b i); size = body_length b i }

-- how the names at places i and j compare; where there is none, the other one comes first
abbrev pub next_order : Bytes → Bytes → ℕ → ℕ → Ordering
next_order b c i j = cond (leb (name_count c) j) Less (cond (leb (name_count b) i) Greater (compare_bytes (name_at b i) (name_at c j)))

-- tables with room for the names of both
pub record Joinable (b c : Bytes) (spans : List Span) (first second : List ℕ) : Type 0 where
  pub spans_room : name_count b + name_count c ≤ length spans
  pub first_room : name_count b ≤ length first
  pub second_room : name_count c ≤ length second

-- the numbers of the first i names of a record stand by place, all below n
abbrev pub NumberedTo : ℕ → Bytes → List ℕ → ℕ → (ℕ → Bytes) → Type 0
NumberedTo i b numbers n name = (p : ℕ) → p < i → (get_or numbers p 0 < n) × (name (get_or numbers p 0) ≡ name_at b p)

-- the n names of both in order, and their numbers
pub record Joined (b c : Bytes) (spans : List Span) (first second : List ℕ) (n : ℕ) : Type 0 where
  pub count : n ≤ name_count b + name_count c
  pub fits : n ≤ length spans
  pub order : InOrder (name_by b c spans) n
  pub of_first : NumberedTo (name_count b) b first n (name_by b c spans)
  pub of_second : NumberedTo (name_count c) c second n (name_by b c spans)
