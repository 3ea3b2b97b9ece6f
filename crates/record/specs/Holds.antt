-- What holds of every buffer that is a record, of the place of its own name, and of rows of places of its names.
use Rattle.std.specs.Prelude.{◌≡◌, All, List, [], ℕ, ◌≤◌, ◌<◌, length, get_or, Option, Some, None}
use Rattle.model.specs.Bytes.{Bytes}
use Rattle.model.specs.Record.{GraphName, names, max_names, max_pairs}
use Rattle.model.specs.Layout.{record_length, entry_at, name_count, own_number, pair_count, bodies_at, shown, decode}
use Rattle.record.specs.declared.layout.Head.{Head}
use Rattle.record.specs.Reader.{IsHead}
use Rattle.model.specs.declared.Kind.TheVariants.{Subgraph, Translation}

-- its meaning is what it shows, and its counts are within the sizes
pub record HoldsRecord (b : Bytes) : Type 0 where
  pub decoded : decode b ≡ Some (shown b)
  pub long : length b ≡ record_length
  pub count : name_count b ≤ max_names
  pub own : own_number b ≤ name_count b
  pub subgraphs : pair_count Subgraph b ≤ max_pairs
  pub translations : pair_count Translation b ≤ max_pairs

-- a record with its counts
pub record IsReader (b : Bytes) (h : Head) : Type 0 where
  pub holds : HoldsRecord b
  pub head : IsHead b h

-- at place p is the own name
abbrev pub IsOwnAt : GraphName → ℕ → Type 0
IsOwnAt g p = (p < length (names g)) × (g.name ≡ Some (get_or (names g) p []))

-- its place, if there is an own name
abbrev pub IsOwnPlace : GraphName → Option ℕ → Type 0
IsOwnPlace g None = g.name ≡ None
IsOwnPlace g (Some p) = IsOwnAt g p

-- both numbers of a row are below n
abbrev pub BothBelow : ℕ → ℕ × ℕ → Type 0
BothBelow n p = (p.0 < n) × (p.1 < n)

-- the rows are of places of names, whose entries all lie within the buffer and whose bodies begin at byte `bodies`
pub record PairsIn (b : Bytes) (bodies : ℕ) (rows : List (ℕ × ℕ)) : Type 0 where
  pub start : bodies ≡ bodies_at b
  pub near : bodies < 4294967296
  pub entries : entry_at (name_count b) ≤ length b
  pub places : All (BothBelow (name_count b)) rows
