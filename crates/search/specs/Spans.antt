-- The names of nodes as spans: parts of two byte strings, counted through the first and on through the second.
use Rattle.std.specs.Prelude.{cond, List, ℕ, ◌-◌, length, take, drop, get_or, ltb}
use Rattle.model.specs.Bytes.{Bytes}
use Rattle.search.specs.declared.names.Span.{Span}
use Rattle.search.specs.declared.names.Names.{Names}
use Rattle.search.specs.declared.short_names.ShortNames.{ShortNames}

-- the part that a span stands for: of whichever it begins in
unfoldable pub spanned : Bytes → Bytes → Span → Bytes
spanned b c s = cond (ltb s.start (length b)) (take s.size (drop s.start b)) (take s.size (drop (s.start - length b) c))

-- no bytes
abbrev pub no_span : Span
no_span = record { start = 0; size = 0 }

-- the name of a node, by the table of spans
abbrev pub name_by : Bytes → Bytes → List Span → ℕ → Bytes
name_by b c spans v = spanned b c (get_or spans v no_span)

-- by the names as the code has them
abbrev pub named : Names → ℕ → Bytes
named n v = name_by n.first.now n.second.now n.spans.now v

-- short names as any
abbrev pub plain : ShortNames → Names
plain n = record { first = n.first; second = n.second; spans = n.spans }
