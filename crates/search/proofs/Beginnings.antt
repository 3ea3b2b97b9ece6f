-- Where the steps of each node begin, one node at a time; and the tables that a search wants, with the index and beside it.
use mathlib.Core.List.{List}
use Rattle.std.specs.Prelude.{Option}
use Prim.Native.Nat.{ℕ, ◌*◌, ◌≤◌, ◌<◌}
use native.Mathlib.Omega.{arith}
use lib.ListN.{length, get_or}
use Rattle.search.specs.Steps.{max_nodes, max_moves, Connects, Made}
use Rattle.search.specs.Table.{Begins, Indexed}
use Rattle.search.specs.Promise.{Searchable, SearchTables}

pub record Indexing (steps starts : List ℕ) (v e : ℕ) : Type 0 where
  pub inside : e ≤ length steps
  pub low : (i : ℕ) → i < e → get_or steps i 0 < v * max_moves
  pub done : (u : ℕ) → u < v → Begins steps u (get_or starts u 0)

-- an indexed table between n nodes
pub made : (steps starts : List ℕ) (n : ℕ) → n ≤ max_nodes → Connects steps starts n → Indexed steps starts → Made steps starts n
made steps starts n small c index = record {
  small = small;
  rises = c.rises;
  nodes = c.nodes;
  long = c.long;
  inside = λ v l. (index v (omega (arith, c.long))).inside;
  below = λ v e l. (index v (omega (arith, c.long))).below e;
  above = λ v e l. (index v (omega (arith, c.long))).above e;
}

-- and its index
pub made_indexed : (steps starts : List ℕ) (n : ℕ) → Made steps starts n → Indexed steps starts
made_indexed steps starts n m v l =
    let inside : v ≤ n = omega (arith, m.long) in
    record { inside = m.inside v inside; below = λ i. m.below v i inside; above = λ i. m.above v i inside }

-- what a search wants is what it wants of a graph, and the index that the graph keeps
module _ (steps starts : List ℕ) (from : ℕ) (q : List ℕ) (places : List (Option ℕ)) where
  pub searchable_tables : Searchable steps starts from q places → SearchTables steps starts from q places
  searchable_tables s = record {
    connects = record { rises = s.made.rises; nodes = s.made.nodes; long = s.made.long };
    room = s.room;
    start = s.start;
  }

  pub tables_searchable : Indexed steps starts → SearchTables steps starts from q places → Searchable steps starts from q places
  tables_searchable index t = record {
    made = made steps starts (length places) t.room.small t.connects index;
    room = t.room;
    start = t.start;
  }
