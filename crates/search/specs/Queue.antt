-- The tables of a search under way. The queue has an entry for each found node, in the order of finding: the place of its
-- predecessor * 16,384 + the move from there. By node: its place, if it is found.
use Rattle.std.specs.Prelude.{◌≡◌, ◌⊎◌, List, [], ◌∷◌, ℕ, suc, ◌+◌, ◌*◌, ◌/◌, ◌%◌, ◌≤◌, ◌<◌, length, get_or, Option, Some, None}
use Rattle.search.specs.Steps.{max_nodes, max_moves, Moves}

abbrev pub node_at : List ℕ → ℕ → ℕ
node_at q j = get_or q j 0 % max_nodes

abbrev pub prev_at : List ℕ → ℕ → ℕ
prev_at q j = get_or q j 0 / max_moves

abbrev pub move_at : List ℕ → ℕ → ℕ
move_at q j = get_or q j 0 % max_moves

-- how many nodes are not found
unfoldable pub missing : List (Option ℕ) → ℕ
missing [] = 0
missing (None ∷ xs) = suc (missing xs)
missing (Some j ∷ xs) = missing xs

-- which nodes are found, and where
pub record Places (q : List ℕ) (places : List (Option ℕ)) (n : ℕ) : Type 0 where
  pub seat : (j : ℕ) → j < n → get_or places (node_at q j) None ≡ Some j
  pub inside : (j : ℕ) → j < n → node_at q j < length places
  pub back : (v j : ℕ) → v < length places → get_or places v None ≡ Some j → (j < n) × (node_at q j ≡ v)

-- the node that move m leads to from place p is found, by an entry that is no greater than p * 16,384 + m
abbrev pub FoundBy : List ℕ → ℕ → ℕ → ℕ → Type 0
FoundBy q n p m = (j : ℕ) × (j < n) × (node_at q j ≡ m % max_nodes) × ((j ≡ 0) ⊎ (get_or q j 0 ≤ p * max_moves + m))

-- every step whose entry would be below x is done: it leads to a found node whose entry is no greater
pub record Tree (R : Moves) (q : List ℕ) (n x : ℕ) : Type 0 where
  pub some : 0 < n
  pub root : get_or q 0 0 < max_nodes
  pub falls : (j : ℕ) → 0 < j → j < n → prev_at q j < j
  pub steps : (j : ℕ) → 0 < j → j < n → R (node_at q (prev_at q j)) (move_at q j)
  pub rises : (i j : ℕ) → 0 < i → i < j → j < n → get_or q i 0 < get_or q j 0
  pub done : (j : ℕ) → 0 < j → j < n → get_or q j 0 < x
  pub closed : (p m : ℕ) → p < n → p * max_moves + m < x → R (node_at q p) m → FoundBy q n p m

-- there is room for every node
pub record Room (q : List ℕ) (places : List (Option ℕ)) : Type 0 where
  pub queue : length q ≡ length places
  pub small : length places ≤ max_nodes

-- n nodes are found, and the steps from the places before h are done
pub record Searching (R : Moves) (q : List ℕ) (places : List (Option ℕ)) (n h : ℕ) : Type 0 where
  pub room : Room q places
  pub found : n + missing places ≡ length places
  pub seats : Places q places n
  pub tree : Tree R q n (h * max_moves)

-- what was found stays
pub record Kept (q : List ℕ) (n : ℕ) (q' : List ℕ) (n' : ℕ) : Type 0 where
  pub count : n ≤ n'
  pub entries : (j : ℕ) → j < n → get_or q' j 0 ≡ get_or q j 0
