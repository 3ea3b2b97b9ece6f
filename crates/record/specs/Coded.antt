-- Between a graph name and its bytes: the distinct names, ascending, and places in them. And the bytes of pairs of numbers.
use Rattle.std.specs.Prelude.{List, [], ◌∷◌, ◌++◌, map, ℕ, zero, suc, ◌+◌, length, get_or, Option, Some, None}
use Rattle.model.specs.Bytes.{Bytes}
use Rattle.model.specs.Numbers.{le16}
use Rattle.model.specs.Record.{Pair, GraphName}

-- the own name's number is its place and one more, or 0 for none
pub record Coded : Type 0 where
  pub names : List Bytes
  pub own : ℕ
  pub subgraph : List (ℕ × ℕ)
  pub translation : List (ℕ × ℕ)

abbrev pub name_in : List Bytes → ℕ → Bytes
name_in ns i = get_or ns i []

abbrev pub pair_in : List Bytes → ℕ × ℕ → Pair
pair_in ns p = record { from = name_in ns p.0; to = name_in ns p.1 }

abbrev pub own_in : List Bytes → ℕ → Option Bytes
own_in ns zero = None
own_in ns (suc i) = Some (name_in ns i)

abbrev pub meaning : Coded → GraphName
meaning c = record {
  name = own_in c.names c.own;
  subgraph = map (pair_in c.names) c.subgraph;
  translation = map (pair_in c.names) c.translation;
}

-- the bytes of a list of pairs
unfoldable pub le_pairs : List (ℕ × ℕ) → Bytes
le_pairs [] = []
le_pairs (p ∷ ps) = le16 p.0 ++ (le16 p.1 ++ le_pairs ps)

-- the bytes of the four counts
abbrev pub counts_of : ℕ → ℕ → ℕ → ℕ → Bytes
counts_of names own subgraph translation = le16 names ++ (le16 own ++ (le16 subgraph ++ le16 translation))

-- the bytes of a name's entry
abbrev pub entry_of : ℕ → Bytes → Bytes
entry_of start name = le16 start ++ le16 (length name)

-- start and length of each name as numbers, the first at `start`
unfoldable pub spans : ℕ → List Bytes → List (ℕ × ℕ)
spans start [] = []
spans start (n ∷ ns) = (start, length n) ∷ spans (start + length n) ns
