-- What a search promises: the nodes that it took are the first reachable ones in the order of their best paths (fewest steps, then the
-- first move that differs), each with that path read back by its predecessors.
use Rattle.std.specs.Prelude.{◌≡◌, ◌⊎◌, List, [], ◌∷◌, ◌++◌, ℕ, zero, suc, ◌+◌, ◌≤◌, ◌<◌, length, get_or, Option, Some, None}
use Rattle.search.specs.declared.Searched.{Searched}
use Rattle.search.specs.Steps.{Moves, IsPath, Earlier, Best, Made, Connects}
use Rattle.search.specs.Queue.{node_at, prev_at, move_at, Room, Places}

-- the path to a place, by its predecessors; the first argument bounds how far it goes back
unfoldable pub walk : List ℕ → ℕ → ℕ → List ℕ
walk q zero j = []
walk q (suc f) zero = []
walk q (suc f) (suc j) = walk q f (prev_at q (suc j)) ++ (move_at q (suc j) ∷ [])

abbrev pub path_to : List ℕ → ℕ → List ℕ
path_to q j = walk q j j

-- from a place the predecessors lead back to the first
pub record Back (q : List ℕ) (place : ℕ) : Type 0 where
  pub inside : place < length q
  pub falls : (j : ℕ) → 0 < j → j ≤ place → prev_at q j < j

-- tables to search from a node
pub record Searchable (steps starts : List ℕ) (from : ℕ) (q : List ℕ) (places : List (Option ℕ)) : Type 0 where
  pub made : Made steps starts (length places)
  pub room : Room q places
  pub start : from < length places

-- the same of a graph, which keeps that the starts are the index of the steps
pub record SearchTables (steps starts : List ℕ) (from : ℕ) (q : List ℕ) (places : List (Option ℕ)) : Type 0 where
  pub connects : Connects steps starts (length places)
  pub room : Room q places
  pub start : from < length places

-- b is among the first n of the queue
abbrev pub Among : List ℕ → ℕ → ℕ → Type 0
Among q n b = (j : ℕ) × (j < n) × (node_at q j ≡ b)

-- the last one taken is the target, or nothing is left
abbrev pub Ends : List ℕ → ℕ → ℕ → ℕ → Option ℕ → Type 0
Ends q target taken found (Some place) = (place + 1 ≡ taken) × (node_at q place ≡ target)
Ends q target taken found None = taken ≡ found

pub record SearchedFrom (R : Moves) (size from target : ℕ) (q : List ℕ) (places : List (Option ℕ)) (r : Searched) : Type 0 where
  -- each node that was taken has its best path
  pub best : (j : ℕ) → j < r.taken → Best R from (path_to q j) (node_at q j)
  -- in the order of these paths
  pub order : (i j : ℕ) → i < j → j < r.taken → Earlier (path_to q i) (path_to q j)
  -- nothing is missing: a node that has a path is taken, or the target was reached and the path is later than all that were taken
  pub all : (ms : List ℕ) (b : ℕ) → IsPath R from ms b
      → Among q r.taken b ⊎ ((place : ℕ) × (r.target ≡ Some place) × ((j : ℕ) → j < r.taken → Earlier (path_to q j) ms))
  pub ends : Ends q target r.taken r.found r.target
  -- no earlier one is the target
  pub passed : (j : ℕ) → j < r.taken → node_at q j ≡ target → r.target ≡ Some j
  pub start : (0 < r.taken) × (get_or q 0 0 ≡ from)
  pub count : (r.taken ≤ r.found) × (r.found ≤ size)
  -- the predecessors lead back to the first place
  pub falls : (j : ℕ) → 0 < j → j < r.found → prev_at q j < j
  -- where each found node stands
  pub queue_long : length q ≡ size
  pub places_long : length places ≡ size
  pub seats : Places q places r.found
