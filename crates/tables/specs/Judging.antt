-- The sizes that tables are judged by, with an own name kept apart; and what can be stored.
use Rattle.std.specs.Prelude.{◌≡◌, cond, ◌||◌, List, ℕ, suc, ◌≤◌, length, ltb, Option, Some, None}
use Rattle.model.specs.Bytes.{Bytes, compare_bytes}
use Rattle.model.specs.Record.{insert, names, any_long, bodies, max_names, max_pairs, max_bodies_bytes}
use Rattle.model.specs.Opening.{Given, number_of}
use Rattle.model.specs.Outcome.{Outcome}
use Rattle.record.specs.Coded.{meaning}
use Rattle.sorted.specs.Tables.{Tables, table_names, read_out, Kept}
use Rattle.sorted.specs.Loading.{Limited}

-- the names, with an own name among them
abbrev pub names_and : Option Bytes → List Bytes → List Bytes
names_and None ns = ns
names_and (Some n) ns = insert compare_bytes n ns

-- the numbers 12 to 14 of docs/FORMAT.md, in their order, or 0
unfoldable pub count_fault : ℕ → ℕ → ℕ → ℕ → ℕ
count_fault count bytes subgraph translation =
    cond (ltb max_names count) 12 (cond (ltb max_pairs subgraph || ltb max_pairs translation) 13 (cond (ltb max_bodies_bytes bytes) 14 0))

-- 11 to 14, of these names and so many pairs
abbrev pub size_fault : List Bytes → ℕ → ℕ → ℕ
size_fault ns subgraph translation = cond (any_long ns) 11 (count_fault (length ns) (length (bodies ns)) subgraph translation)

-- what an answer comes to, with what the buffer holds then
abbrev pub outcome : Given Unit → Bytes → Outcome
outcome answer buffer = record { number = number_of answer; buffer = buffer }

-- the number of an own name's place: one more, or 0 for none
abbrev pub numbered : Option ℕ → ℕ
numbered None = 0
numbered (Some place) = suc place

-- the tables, with the own name of this number, are those of a graph name
pub record Complete (t : Tables) (own : ℕ) : Type 0 where
  pub kept : Kept t
  pub own_within : own ≤ t.sizes.names
  pub used : names (meaning (read_out t own)) ≡ table_names t

-- the tables, with the own name of this number, are those of a graph name within the sizes
pub record Storable (t : Tables) (own : ℕ) : Type 0 where
  pub complete : Complete t own
  pub sizes : Limited t.sizes
