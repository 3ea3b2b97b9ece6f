-- Steps between nodes as numbers, and the paths that they make. A node is a number below 8,192. A move is a step without its start:
-- 8,192 for a translation or 0 for a subgraph, plus the next node; so a step from v by move m is v * 16,384 + m, and the order of
-- steps is the order of numbers.
use Rattle.std.specs.Prelude.{◌≡◌, ◌⊎◌, List, [], ◌∷◌, ℕ, ◌+◌, ◌*◌, ◌%◌, ◌≤◌, ◌<◌, length, get_or}

-- nodes are numbers below this
abbrev pub max_nodes : ℕ
max_nodes = 8192

-- and moves below this: one to each node by each kind
abbrev pub max_moves : ℕ
max_moves = 16384

-- ------------------------------------------------------------------ paths

-- from which node which moves lead
abbrev pub Moves : Type 1
Moves = ℕ → ℕ → Type 0

-- the moves lead from a to b
unfoldable pub IsPath : Moves → ℕ → List ℕ → ℕ → Type 0
IsPath R a [] b = a ≡ b
IsPath R a (m ∷ ms) b = R a m × IsPath R (m % max_nodes) ms b

-- the first move that differs counts
unfoldable pub Before : List ℕ → List ℕ → Type 0
Before [] ks = ⊥
Before (m ∷ ms) [] = ⊥
Before (m ∷ ms) (k ∷ ks) = (m < k) ⊎ ((m ≡ k) × Before ms ks)

-- ms has fewer steps than ks, or as many and comes before
abbrev pub Earlier : List ℕ → List ℕ → Type 0
Earlier ms ks = (length ms < length ks) ⊎ ((length ms ≡ length ks) × Before ms ks)

abbrev pub NotLater : List ℕ → List ℕ → Type 0
NotLater ms ks = (ks ≡ ms) ⊎ Earlier ms ks

-- ms is a path, and every other is later
pub record Best (R : Moves) (a : ℕ) (ms : List ℕ) (b : ℕ) : Type 0 where
  pub path : IsPath R a ms b
  pub first : (ks : List ℕ) → IsPath R a ks b → NotLater ms ks

-- ------------------------------------------------------------------ the table

-- the step stands in the table
abbrev pub leads : List ℕ → Moves
leads steps v m = (m < max_moves) × ((e : ℕ) × (e < length steps) × (get_or steps e 0 ≡ v * max_moves + m))

-- ascending steps (one may stand twice) that lead to n nodes, with a start for each node and one for the end of the last one's
pub record Connects (steps starts : List ℕ) (n : ℕ) : Type 0 where
  pub rises : (e f : ℕ) → e < f → f < length steps → get_or steps e 0 ≤ get_or steps f 0
  pub nodes : (e : ℕ) → e < length steps → get_or steps e 0 % max_nodes < n
  pub long : length starts ≡ n + 1

-- ascending steps (one may stand twice) between n nodes, and where those of each node begin
pub record Made (steps starts : List ℕ) (n : ℕ) : Type 0 where
  pub small : n ≤ max_nodes
  pub rises : (e f : ℕ) → e < f → f < length steps → get_or steps e 0 ≤ get_or steps f 0
  pub nodes : (e : ℕ) → e < length steps → get_or steps e 0 % max_nodes < n
  pub long : length starts ≡ n + 1
  pub inside : (v : ℕ) → v ≤ n → get_or starts v 0 ≤ length steps
  pub below : (v e : ℕ) → v ≤ n → e < get_or starts v 0 → get_or steps e 0 < v * max_moves
  pub above : (v e : ℕ) → v ≤ n → get_or starts v 0 ≤ e → e < length steps → v * max_moves ≤ get_or steps e 0
