-- Nodes that stand for names, in the order of the names: what the numbers of a search say of the relations between names.
use Rattle.std.specs.Prelude.{◌≡◌, cond, List, [], map, ℕ, ◌/◌, ◌%◌, ◌≤◌, ◌<◌, length, get_or, ltb}
use Rattle.std.specs.declared.cmp.Ordering.TheVariants.{Less}
use Rattle.model.specs.declared.Kind.{Kind}
use Rattle.model.specs.declared.Kind.TheVariants.{Subgraph, Translation}
use Rattle.model.specs.Bytes.{Bytes, compare_bytes}
use Rattle.model.specs.Record.{Pair}
use Rattle.model.specs.Path.{Step, kind_number}
use Rattle.model.specs.Statements.{Relation}
use Rattle.search.specs.Table.{Rises}
use Rattle.search.specs.Steps.{leads, max_nodes, max_moves, Moves}

abbrev pub kind_of : ℕ → Kind
kind_of m = cond (ltb m max_nodes) Subgraph Translation

abbrev pub step_of : (ℕ → Bytes) → ℕ → Step
step_of name m = record { kind = kind_of m; next = name (m % max_nodes) }

abbrev pub steps_of : (ℕ → Bytes) → List ℕ → List Step
steps_of name ms = map (step_of name) ms

-- the names of the numbers below n are in the order of the numbers
abbrev pub InOrder : (ℕ → Bytes) → ℕ → Type 0
InOrder name n = (i j : ℕ) → i < j → j < n → compare_bytes (name i) (name j) ≡ Less

-- the moves between n nodes are the relations R between their names
pub record Stands (M : Moves) (n : ℕ) (name : ℕ → Bytes) (R : Relation) : Type 0 where
  pub order : InOrder name n
  pub small : (v m : ℕ) → M v m → m < max_moves
  pub inside : (v m : ℕ) → M v m → (v < n) × (m % max_nodes < n)
  pub there : (v m : ℕ) → M v m → R (kind_of m) (name v) (name (m % max_nodes))
  pub back : (k : Kind) (v : ℕ) (b : Bytes) → v < n → R k (name v) b → (m : ℕ) × M v m × (kind_of m ≡ k) × (name (m % max_nodes) ≡ b)

-- ascending steps between n nodes, for the relations R between their names
pub record StepTable (steps : List ℕ) (n : ℕ) (name : ℕ → Bytes) (R : Relation) : Type 0 where
  pub few : n ≤ max_nodes
  pub rises : Rises steps (length steps)
  pub stands : Stands (leads steps) n name R

abbrev pub no_pair : Pair
no_pair = record { from = []; to = [] }

-- the steps of a list of pairs of one kind, in the list's order
pub record Row (kind : Kind) (n : ℕ) (name : ℕ → Bytes) (ps : List Pair) (row : List ℕ) : Type 0 where
  pub long : length row ≡ length ps
  pub kinds : (i : ℕ) → i < length row → get_or row i 0 % max_moves / max_nodes ≡ kind_number kind
  pub starts : (i : ℕ) → i < length row → (get_or row i 0 / max_moves < n) × (name (get_or row i 0 / max_moves) ≡ (get_or ps i no_pair).from)
  pub ends : (i : ℕ) → i < length row → (get_or row i 0 % max_nodes < n) × (name (get_or row i 0 % max_nodes) ≡ (get_or ps i no_pair).to)
