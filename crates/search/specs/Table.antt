-- Tables of numbers: two ascending ones as one, and where the steps of each node begin.
use Rattle.std.specs.Prelude.{◌≡◌, ◌⊎◌, List, ℕ, ◌+◌, ◌*◌, ◌≤◌, ◌<◌, length, get_or}
use Rattle.search.specs.Steps.{max_moves}

-- the first n ascend, none twice
abbrev pub Rises : List ℕ → ℕ → Type 0
Rises s n = (i j : ℕ) → i < j → j < n → get_or s i 0 < get_or s j 0

-- x stands among the first n
abbrev pub Holds : List ℕ → ℕ → ℕ → Type 0
Holds s n x = (i : ℕ) × (i < n) × (get_or s i 0 ≡ x)

-- two ascending tables, with room for both
pub record Mergeable (a b out : List ℕ) : Type 0 where
  pub first_rises : Rises a (length a)
  pub second_rises : Rises b (length b)
  pub room : length a + length b ≤ length out

-- the first n of out ascend and are the numbers of a and b
pub record Merged (a b out : List ℕ) (n : ℕ) : Type 0 where
  pub count : n ≤ length a + length b
  pub rises : Rises out n
  pub either : (x : ℕ) → Holds out n x → Holds a (length a) x ⊎ Holds b (length b) x
  pub first : (x : ℕ) → Holds a (length a) x → Holds out n x
  pub second : (x : ℕ) → Holds b (length b) x → Holds out n x

-- the steps of node v begin at place e
pub record Begins (steps : List ℕ) (v e : ℕ) : Type 0 where
  pub inside : e ≤ length steps
  pub below : (i : ℕ) → i < e → get_or steps i 0 < v * max_moves
  pub above : (i : ℕ) → e ≤ i → i < length steps → v * max_moves ≤ get_or steps i 0

-- so for every node
abbrev pub Indexed : List ℕ → List ℕ → Type 0
Indexed steps starts = (v : ℕ) → v < length starts → Begins steps v (get_or starts v 0)
