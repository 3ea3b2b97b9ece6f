-- The working tables, and the graph name that they show. Names are numbers, start * 65536 + length, of bodies in a pool; pairs are
-- numbers, first place * 65536 + second place.
use Rattle.std.specs.Prelude.{◌≡◌, false, ℕ, ◌+◌, ◌/◌, ◌%◌, ◌≤◌, ◌<◌, length, take, drop}
use mathlib.Core.List.{List, [], map, Memᴰ}
use Rattle.model.specs.Bytes.{Bytes, compare_numbers, compare_bytes}
use Rattle.model.specs.Record.{GraphName, insert, with_pair, any_long, bodies, max_name_bytes}
use Rattle.model.specs.declared.Kind.{Kind}
use Rattle.model.specs.declared.Kind.TheVariants.{Subgraph, Translation}
use Rattle.model.specs.Statements.{Ascending}
use Rattle.record.specs.Test.{Under}
use Rattle.record.specs.Coded.{Coded, meaning}
use Rattle.sorted.specs.declared.putting.Sizes.{Sizes}
use Rattle.sorted.specs.Sorted.{lower}

-- the tables, of which as much is in use as the sizes say
pub record Tables : Type 0 where
  pub refs : List ℕ
  pub subs : List ℕ
  pub trans : List ℕ
  pub pool : Bytes
  pub sizes : Sizes

abbrev pub tables : List ℕ → List ℕ → List ℕ → Bytes → Sizes → Tables
tables refs subs trans pool sizes = record { refs = refs; subs = subs; trans = trans; pool = pool; sizes = sizes }

-- tables that hold these lists, all of which is in use
abbrev pub holding : List ℕ → List ℕ → List ℕ → Bytes → Tables
holding refs subs trans pool =
    tables refs subs trans pool (record { names = length refs; bytes = length pool; subgraph = length subs; translation = length trans })

-- nothing in use
abbrev pub unused : Sizes
unused = record { names = 0; bytes = 0; subgraph = 0; translation = 0 }

-- tables that hold nothing
abbrev pub fresh : Tables
fresh = holding [] [] [] []

-- the body that a number stands for
abbrev pub body_in : Bytes → ℕ → Bytes
body_in pool r = take (r % 65536) (drop (r / 65536) pool)

-- the places that a number stands for
abbrev pub places_of : ℕ → ℕ × ℕ
places_of x = (x / 65536, x % 65536)

-- the names of the first n numbers of a table, and the pairs
abbrev pub names_in : Bytes → ℕ → List ℕ → List Bytes
names_in pool n refs = map (body_in pool) (take n refs)

abbrev pub pairs_in : ℕ → List ℕ → List (ℕ × ℕ)
pairs_in n xs = map places_of (take n xs)

abbrev pub table_names : Tables → List Bytes
table_names t = names_in t.pool t.sizes.names t.refs

-- the numbers of the pairs of a kind
abbrev pub numbers_of : Kind → Tables → List ℕ
numbers_of Subgraph t = take t.sizes.subgraph t.subs
numbers_of Translation t = take t.sizes.translation t.trans

-- what the tables hold, with the number of the own name, its place and one more, or 0 for none
abbrev pub read_out : Tables → ℕ → Coded
read_out t own = record {
  names = table_names t;
  own = own;
  subgraph = pairs_in t.sizes.subgraph t.subs;
  translation = pairs_in t.sizes.translation t.trans;
}

-- the graph name shown: no own name
abbrev pub graph_in : Tables → GraphName
graph_in t = meaning (read_out t 0)

-- the first k numbers of a table are pairs of places below n, and ascend
pub record KeptPairs (n k : ℕ) (xs : List ℕ) : Type 0 where
  pub order : Ascending compare_numbers (take k xs)
  pub under : Under n (pairs_in k xs)
  pub within : k ≤ length xs

-- the names ascend and are short, the pairs are of places of theirs and ascend, and all is within the tables
pub record Kept (t : Tables) : Type 0 where
  pub order : Ascending compare_bytes (table_names t)
  pub short : any_long (table_names t) ≡ false
  pub within : (r : ℕ) → Memᴰ r (take t.sizes.names t.refs) → r / 65536 + r % 65536 ≤ t.sizes.bytes
  pub total : t.sizes.bytes ≡ length (bodies (table_names t))
  pub count : t.sizes.names ≤ length t.refs
  pub room : t.sizes.bytes ≤ length t.pool
  pub few : length t.refs < 65536
  pub small : length t.pool < 65536
  pub subgraph : KeptPairs t.sizes.names t.sizes.subgraph t.subs
  pub translation : KeptPairs t.sizes.names t.sizes.translation t.trans

-- in tables for so many names and bytes there is room for a name, which is short
pub record NameRoom (names bytes : ℕ) (t : Tables) (name : Bytes) : Type 0 where
  pub short : length name ≤ max_name_bytes
  pub count : t.sizes.names < names
  pub room : t.sizes.bytes + length name ≤ bytes

-- in tables for so many names, pairs of each kind and bytes there is room for a pair of either kind with its two names, which are short
pub record PairRoom (names pairs bytes : ℕ) (t : Tables) (from to : Bytes) : Type 0 where
  pub from_short : length from ≤ max_name_bytes
  pub to_short : length to ≤ max_name_bytes
  pub count : t.sizes.names + 1 < names
  pub room : t.sizes.bytes + length from + length to ≤ bytes
  pub subgraph : t.sizes.subgraph < pairs
  pub translation : t.sizes.translation < pairs

-- ------------------------------------------------------------------ what is put in

-- u are the tables t with a name put in, which stood or now stands at a place; the graph name shown is the same
pub record NamePut (t : Tables) (name : Bytes) (u : Tables) (at : ℕ) : Type 0 where
  pub kept : Kept u
  pub names : table_names u ≡ insert compare_bytes name (table_names t)
  pub graph : graph_in u ≡ graph_in t
  pub place : at ≡ lower compare_bytes name (table_names t)
  pub count : u.sizes.names ≤ t.sizes.names + 1
  pub bytes : u.sizes.bytes ≤ t.sizes.bytes + length name
  pub subgraph : u.sizes.subgraph ≡ t.sizes.subgraph
  pub translation : u.sizes.translation ≡ t.sizes.translation

-- u are the tables t with a pair put in
pub record PairPut (kind : Kind) (t : Tables) (from to : Bytes) (u : Tables) : Type 0 where
  pub kept : Kept u
  pub names : table_names u ≡ insert compare_bytes to (insert compare_bytes from (table_names t))
  pub graph : graph_in u ≡ with_pair kind (record { from = from; to = to }) (graph_in t)
