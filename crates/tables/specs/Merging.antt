-- The pairs of a record put into tables: the room that they take, and what the tables show then.
use Rattle.std.specs.Prelude.{◌≡◌, ℕ, ◌+◌, ◌*◌, ◌≤◌, ◌<◌, length, Option}
use mathlib.Core.List.{List, [], ◌∷◌, Memᴰ}
use Rattle.model.specs.declared.Kind.{Kind}
use Rattle.model.specs.declared.Kind.TheVariants.{Subgraph, Translation}
use Rattle.model.specs.Bytes.{Bytes, compare_bytes}
use Rattle.model.specs.Record.{Pair, GraphName, insert_all, with_pair, names, bodies, max_name_bytes}
use Rattle.model.specs.Questions.{pairs_of}
use Rattle.sorted.specs.Tables.{Tables, table_names, graph_in, Kept}
use Rattle.sorted.specs.Loading.{Good}

-- pairs of a kind added, one after the other
abbrev pub with_pairs : Kind → List Pair → GraphName → GraphName
with_pairs kind [] g = g
with_pairs kind (p ∷ ps) g = with_pairs kind ps (with_pair kind p g)

-- how many of k pairs of a kind are of either
abbrev pub subgraph_more : Kind → ℕ → ℕ
subgraph_more Subgraph k = k
subgraph_more Translation k = 0

abbrev pub translation_more : Kind → ℕ → ℕ
translation_more Subgraph k = 0
translation_more Translation k = k

-- all names of the tables and of h
abbrev pub all_of : Tables → GraphName → List Bytes
all_of t h = insert_all compare_bytes (names h) (table_names t)

-- in tables for so many names, pairs of each kind and bytes there is room for all names of h and for these many pairs, and for one pair more
pub record MergeRoom (names pairs bytes : ℕ) (t : Tables) (h : GraphName) (s m : ℕ) : Type 0 where
  pub count : length (all_of t h) + 1 < names
  pub room : length (bodies (all_of t h)) + 2 * max_name_bytes ≤ bytes
  pub subgraph : t.sizes.subgraph + s < pairs
  pub translation : t.sizes.translation + m < pairs

-- u are the tables t with all pairs of a kind of h
pub record PairsPut (kind : Kind) (t : Tables) (h : GraphName) (u : Tables) : Type 0 where
  pub kept : Kept u
  pub good : (own : Option Bytes) → Good own t → Good own u
  pub graph : graph_in u ≡ with_pairs kind (pairs_of kind h) (graph_in t)
  pub within : (x : Bytes) → Memᴰ x (table_names u) → Memᴰ x (all_of t h)
  pub subgraph : u.sizes.subgraph ≤ t.sizes.subgraph + subgraph_more kind (length (pairs_of kind h))
  pub translation : u.sizes.translation ≤ t.sizes.translation + translation_more kind (length (pairs_of kind h))
