-- Paths (document 01's chains) over the relations of two graph names taken together.
use Rattle.std.specs.Prelude.{cond, List, [], ◌∷◌, ◌++◌, ℕ, zero, suc, ◌+◌, length, Option, Some, None}
use Rattle.model.specs.Bytes.{Bytes, same_bytes}
use Rattle.model.specs.Record.{Pair, GraphName, insert_all, compare_pairs}
use Rattle.model.specs.Numbers.{le16}
use Rattle.model.specs.declared.Kind.{Kind}
use Rattle.model.specs.declared.Kind.TheVariants.{Subgraph, Translation}

-- a step leads to `next` by a relation of this kind
pub record Step : Type 0 where
  pub kind : Kind
  pub next : Bytes

-- the steps of one kind that leave a, ascending by next name
unfoldable pub leaving_by : Kind → List Pair → Bytes → List Step
leaving_by k [] a = []
leaving_by k (p ∷ ps) a = cond (same_bytes p.from a) (record { kind = k; next = p.to } ∷ leaving_by k ps a) (leaving_by k ps a)

-- the relations that a question goes by: subgraph pairs, and for a full path translation pairs too
pub record Relations : Type 0 where
  pub subgraphs : List Pair
  pub translations : List Pair

unfoldable pub leaving : Relations → Bytes → List Step
leaving r a = leaving_by Subgraph r.subgraphs a ++ leaving_by Translation r.translations a

-- the first path of exactly k steps from a to b, in the order of docs/FORMAT.md: by the first step, subgraph before translation, then
-- the smaller next name
unfoldable pub first_of : (Bytes → Option (List Step)) → List Step → Option (List Step)
first_of rest [] = None
first_of rest (s ∷ ss) = elim (rest s.next) [ Some p ↦ Some (s ∷ p) | None ↦ first_of rest ss ]

unfoldable pub first_path : Relations → ℕ → Bytes → Bytes → Option (List Step)
first_path r zero b a = cond (same_bytes a b) (Some []) None
first_path r (suc k) b a = first_of (first_path r k b) (leaving r a)

-- the first of the paths with fewest steps, among those of k to k + more steps
unfoldable pub path_from : Relations → ℕ → ℕ → Bytes → Bytes → Option (List Step)
path_from r k zero b a = first_path r k b a
path_from r k (suc more) b a = elim (first_path r k b a) [ Some p ↦ Some p | None ↦ path_from r (suc k) more b a ]

-- a path that leaves no name twice has at most as many steps as there are relations
unfoldable pub best_path : Relations → Bytes → Bytes → Option (List Step)
best_path r a b = path_from r 0 (length r.subgraphs + length r.translations) b a

-- the two questions, over the union of both records
abbrev pub subgraph_relations : GraphName → GraphName → Relations
subgraph_relations g h = record { subgraphs = insert_all compare_pairs h.subgraph g.subgraph; translations = [] }

abbrev pub all_relations : GraphName → GraphName → Relations
all_relations g h = record { subgraphs = insert_all compare_pairs h.subgraph g.subgraph; translations = insert_all compare_pairs h.translation g.translation }

abbrev pub between : Relations → Option Bytes → Option Bytes → Option (List Step)
between r None b = None
between r (Some a) None = None
between r (Some a) (Some b) = best_path r a b

unfoldable pub subgraph_path : GraphName → GraphName → Option (List Step)
subgraph_path g h = between (subgraph_relations g h) g.name h.name

unfoldable pub full_path : GraphName → GraphName → Option (List Step)
full_path g h = between (all_relations g h) g.name h.name

-- the path's bytes (document 01's chain slip)
abbrev pub kind_number : Kind → ℕ
kind_number Subgraph = 0
kind_number Translation = 1

unfoldable pub path_entries : Bytes → List Step → Bytes
path_entries a [] = le16 (length a) ++ le16 2
path_entries a (s ∷ ss) = le16 (length a) ++ le16 (kind_number s.kind) ++ path_entries s.next ss

unfoldable pub path_bodies : Bytes → List Step → Bytes
path_bodies a [] = a
path_bodies a (s ∷ ss) = a ++ path_bodies s.next ss

unfoldable pub path_bytes : Bytes → List Step → Bytes
path_bytes a ss = le16 (suc (length ss)) ++ path_entries a ss ++ path_bodies a ss
