-- Two records as nodes and steps.
use Rattle.std.specs.Prelude.{◌≡◌, List, [], ℕ, ◌+◌, ◌≤◌, ◌<◌, length, get_or}
use Rattle.model.specs.Bytes.{Bytes}
use Rattle.model.specs.Record.{GraphName, names}
use Rattle.model.specs.Statements.{Valid}
use Rattle.search.specs.declared.names.Span.{Span}
use Rattle.search.specs.declared.names.Names.{Names}
use Rattle.search.specs.Spans.{named, plain}
use Rattle.search.specs.Names.{StepTable}
use Rattle.union.specs.declared.graph.United.{United}
use Rattle.union.specs.declared.steps.Question.{Question}
use Rattle.union.specs.Steps.{by_question}

-- how many names two records have, each counted in both, and how many pairs
abbrev pub names_of_both : GraphName → GraphName → ℕ
names_of_both g h = length (names g) + length (names h)

abbrev pub pairs_of_two : GraphName → GraphName → ℕ
pairs_of_two g h = (length g.subgraph + length h.subgraph) + (length g.translation + length h.translation)

-- tables with room for the names and pairs of two records
pub record Unitable (g h : GraphName) (rows : List ℕ) (spans : List Span) (numbers steps : List ℕ) : Type 0 where
  pub rows_room : pairs_of_two g h ≤ length rows
  pub spans_room : names_of_both g h ≤ length spans
  pub numbers_room : names_of_both g h ≤ length numbers
  pub steps_room : pairs_of_two g h ≤ length steps

-- each name of a list has a node
pub record NodesOf (ns : List Bytes) (numbers : List ℕ) (n : Names) : Type 0 where
  pub room : length ns ≤ length numbers
  pub nodes : (p : ℕ) → p < length ns → (get_or numbers p 0 < length n.spans.now) × (named n (get_or numbers p 0) ≡ get_or ns p [])

-- the nodes stand for the names of both in their order, and the steps for the relations of the question
pub record IsUnited (q : Question) (g h : GraphName) (r : United) : Type 0 where
  pub valid : Valid g × Valid h
  pub names_count : length r.names.spans.now ≤ names_of_both g h
  pub steps_count : length r.steps.now ≤ pairs_of_two g h
  pub first : NodesOf (names g) r.first.now (plain r.names)
  pub second : NodesOf (names h) r.second.now (plain r.names)
  pub table : StepTable r.steps.now (length r.names.spans.now) (named (plain r.names)) (by_question q g h)
