-- The pairs of two records as one ascending table of steps.
use Rattle.std.specs.Prelude.{◌≡◌, List, ℕ, ◌+◌, ◌*◌, ◌≤◌, ◌<◌, length, get_or, take}
use Rattle.model.specs.declared.Kind.{Kind}
use Rattle.model.specs.declared.Kind.TheVariants.{Subgraph, Translation}
use Rattle.model.specs.Bytes.{Bytes}
use Rattle.model.specs.Record.{GraphName}
use Rattle.model.specs.Layout.{record_length, pair_length, name_count, pair_count, table_at, from_place, to_place, shown}
use Rattle.model.specs.Questions.{pairs_of}
use Rattle.model.specs.Path.{kind_number}
use Rattle.model.specs.Statements.{Relation, by_subgraph, by_either}
use Rattle.record.specs.Holds.{HoldsRecord}
use Rattle.search.specs.Steps.{max_nodes, max_moves}
use Rattle.search.specs.Names.{InOrder, StepTable}
use Rattle.search.specs.Related.{of_kind, either}
use Rattle.union.specs.declared.steps.Question.{Question}
use Rattle.union.specs.declared.steps.Question.TheVariants as question
use Rattle.union.specs.Names.{NumberedTo}

-- the places of the two names of the pair of a kind at place p
abbrev pub from_at : Bytes → Kind → ℕ → ℕ
from_at b k p = from_place b (table_at k b + pair_length * p)

abbrev pub to_at : Bytes → Kind → ℕ → ℕ
to_at b k p = to_place b (table_at k b + pair_length * p)

-- the pair of a kind at place p as a step between the numbers of its names
abbrev pub step_at : Bytes → Kind → List ℕ → ℕ → ℕ
step_at b k numbers p = get_or numbers (from_at b k p) 0 * max_moves + kind_number k * max_nodes + get_or numbers (to_at b k p) 0

-- the pairs of a kind can be read, and the names have numbers of nodes
pub record Rowable (b : Bytes) (k : Kind) (numbers : List ℕ) : Type 0 where
  pub long : length b ≡ record_length
  pub within : table_at k b + pair_length * pair_count k b ≤ record_length
  pub places : (p : ℕ) → p < pair_count k b → (from_at b k p < name_count b) × (to_at b k p < name_count b)
  pub room : name_count b ≤ length numbers
  pub small : (p : ℕ) → p < name_count b → get_or numbers p 0 < max_nodes

-- the steps of all pairs of a kind
pub record IsRow (b : Bytes) (k : Kind) (numbers row : List ℕ) : Type 0 where
  pub long : length row ≡ pair_count k b
  pub steps : (p : ℕ) → p < pair_count k b → get_or row p 0 ≡ step_at b k numbers p

-- the names of two records have numbers below `size`, in the order of the names
pub record BothNumbered (b : Bytes) (first : List ℕ) (c : Bytes) (second : List ℕ) (size : ℕ) (name : ℕ → Bytes) : Type 0 where
  pub few : size ≤ max_nodes
  pub order : InOrder name size
  pub first_room : name_count b ≤ length first
  pub second_room : name_count c ≤ length second
  pub of_first : NumberedTo (name_count b) b first size name
  pub of_second : NumberedTo (name_count c) c second size name

-- how many pairs two records have: of one kind, and of both
abbrev pub pairs_of_kind : Kind → Bytes → Bytes → ℕ
pairs_of_kind k b c = pair_count k b + pair_count k c

abbrev pub pairs_of_both : Bytes → Bytes → ℕ
pairs_of_both b c = pairs_of_kind Subgraph b c + pairs_of_kind Translation b c

-- two records whose names are numbered, and two tables with room for so many pairs
pub record Gatherable (b : Bytes) (first : List ℕ) (c : Bytes) (second : List ℕ) (pairs : ℕ) (rows out : List ℕ) : Type 0 where
  pub held : HoldsRecord b × HoldsRecord c
  pub size : ℕ
  pub name : ℕ → Bytes
  pub numbered : BothNumbered b first c second size name
  pub rows_room : pairs ≤ length rows
  pub out_room : pairs ≤ length out

-- the relations of two records, of one kind; and those that a question goes by
abbrev pub by_kind : Kind → GraphName → GraphName → Relation
by_kind k g h = either (of_kind k (pairs_of k g)) (of_kind k (pairs_of k h))

abbrev pub by_question : Question → GraphName → GraphName → Relation
by_question question.Full g h = by_either g h
by_question question.Subgraph g h = by_subgraph g h

-- the first r of a table are the steps for these relations of two records, by any names that the numbers have
pub record Gathered (b : Bytes) (first : List ℕ) (c : Bytes) (second : List ℕ) (by : GraphName → GraphName → Relation) (pairs : ℕ) (out : List ℕ) (r : ℕ) : Type 0 where
  pub count : r ≤ pairs
  pub fits : r ≤ length out
  pub steps : (size : ℕ) (name : ℕ → Bytes) → BothNumbered b first c second size name → StepTable (take r out) size name (by (shown b) (shown c))
