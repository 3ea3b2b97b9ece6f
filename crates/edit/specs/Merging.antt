-- The pairs of another record put into tables, if it is merged: the room that they take, and what the tables show then.
use Rattle.std.specs.Prelude.{◌≡◌, ◌+◌, ◌≤◌, Option, Some, None}
use Rattle.model.specs.Bytes.{Bytes}
use Rattle.model.specs.Record.{GraphName, with_relationships}
use Rattle.sorted.specs.declared.putting.Sizes.{Sizes}
use Rattle.sorted.specs.Tables.{Tables, unused, graph_in, Kept}
use Rattle.sorted.specs.Loading.{sizes_of, Good}

-- with the pairs of another record, if it is merged
abbrev pub merged : Option GraphName → GraphName → GraphName
merged None g = g
merged (Some h) g = with_relationships h g

-- how much of the tables it takes, if it is merged
abbrev pub merged_sizes : Option GraphName → Sizes
merged_sizes None = unused
merged_sizes (Some h) = sizes_of h

-- u are the tables t with all pairs of another record, if it is merged
pub record Merged (other : Option GraphName) (t u : Tables) : Type 0 where
  pub kept : Kept u
  pub good : (own : Option Bytes) → Good own t → Good own u
  pub graph : graph_in u ≡ merged other (graph_in t)
  pub count : u.sizes.names ≤ t.sizes.names + (merged_sizes other).names
  pub bytes : u.sizes.bytes ≤ t.sizes.bytes + (merged_sizes other).bytes
  pub subgraph : u.sizes.subgraph ≤ t.sizes.subgraph + (merged_sizes other).subgraph
  pub translation : u.sizes.translation ≤ t.sizes.translation + (merged_sizes other).translation
