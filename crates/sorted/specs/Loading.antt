-- A record copied into tables: where its entries and pairs stand, how much of the tables it takes, and what they show then.
use Rattle.std.specs.Prelude.{◌≡◌, List, ℕ, ◌≤◌, length, drop, Option, None}
use Rattle.model.specs.Bytes.{Bytes}
use Rattle.model.specs.declared.Kind.{Kind}
use Rattle.model.specs.Record.{GraphName, names, bodies, max_names, max_pairs, max_bodies_bytes}
use Rattle.record.specs.Test.{pairs_at}
use Rattle.model.specs.Layout.{pair_count, table_at}
use Rattle.sorted.specs.declared.putting.Sizes.{Sizes}
use Rattle.sorted.specs.Tables.{Tables, table_names, graph_in, Kept}

-- the pairs of a kind, as places
abbrev pub pairs_of_kind : Kind → Bytes → List (ℕ × ℕ)
pairs_of_kind kind b = pairs_at (pair_count kind b) (drop (table_at kind b) b)

-- how much of the tables a graph name takes
abbrev pub sizes_of : GraphName → Sizes
sizes_of g = record {
  names = length (names g);
  bytes = length (bodies (names g));
  subgraph = length g.subgraph;
  translation = length g.translation;
}

-- these sizes are allowed
pub record Limited (s : Sizes) : Type 0 where
  pub names : s.names ≤ max_names
  pub bytes : s.bytes ≤ max_bodies_bytes
  pub subgraph : s.subgraph ≤ max_pairs
  pub translation : s.translation ≤ max_pairs

-- tables for n names, k pairs of each kind and m bytes have room for so much
pub record TableRoom (s : Sizes) (n k m : ℕ) : Type 0 where
  pub count : s.names ≤ n
  pub room : s.bytes ≤ m
  pub subgraph : s.subgraph ≤ k
  pub translation : s.translation ≤ k

-- a graph name with this own name, or none
abbrev pub owned : Option Bytes → GraphName → GraphName
owned name g = record { name = name; subgraph = g.subgraph; translation = g.translation }

-- every name is used, by the pairs or as this own name
pub record Good (own : Option Bytes) (t : Tables) : Type 0 where
  pub kept : Kept t
  pub used : names (owned own (graph_in t)) ≡ table_names t

-- u are tables with all names and pairs of a graph name, and nothing else
pub record Loaded (g : GraphName) (u : Tables) : Type 0 where
  pub good : Good g.name u
  pub graph : graph_in u ≡ owned None g
  pub sizes : u.sizes ≡ sizes_of g
