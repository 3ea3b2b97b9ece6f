-- A question over two united records: the tables can be searched, and the reply between the nodes is that between the own names.
use mathlib.Core.Path.{◌≡◌, ◌∙◌}
use mathlib.Core.Bool.{Bool}
use mathlib.Core.List.{List}
use Prim.Native.Nat.{ℕ, ◌+◌, ◌<◌}
use native.Mathlib.Omega.{arith}
use lib.ListN.{length, get_or, take}
use lib.Seq.{length-take-le}
use Rattle.model.specs.Bytes.{Bytes}
use Rattle.model.specs.Record.{GraphName, names}
use Rattle.model.specs.Opening.{Given}
use Rattle.model.specs.Outcome.{name_or}
use Rattle.model.specs.Statements.{Valid}
use Rattle.record.specs.Holds.{IsOwnAt}
use Rattle.search.specs.Spans.{named, plain}
use Rattle.search.specs.Table.{Indexed}
use Rattle.search.specs.Related.{StandsFor}
use Rattle.search.proofs.StepTables.{search_tables}
use Rattle.path_bytes.specs.Replies.{Replies, Askable, QuestionTables, RepliesRight}
use Rattle.path_bytes.proofs.Replying.{represents, tables_askable}
use Rattle.union.specs.declared.graph.United.{United}
use Rattle.union.specs.declared.steps.Question.{Question}
use Rattle.union.specs.declared.steps.Question.TheVariants as question
use Rattle.union.specs.Steps.{by_question}
use Rattle.union.specs.United.{NodesOf, IsUnited}
use Rattle.questions.specs.declared.question.Own.{Own}
use Rattle.questions.specs.declared.tables.Tables.{Tables}
use Rattle.questions.specs.Room.{Roomy}
use Rattle.questions.specs.Asked.{relations_of, AreOwn, answer_of}
use Rattle.questions.proofs.Demand.{stands_subgraph, stands_either}

-- the lists of a question stand for its relations
question_stands : (q : Question) (g h : GraphName) → Valid g → Valid h → StandsFor (relations_of q g h) (by_question q g h)
question_stands question.Full g h d e = stands_either g h d e
question_stands question.Subgraph g h d e = stands_subgraph g h d e

-- the nodes of the own names
module _ (q : Question) (g h : GraphName) (own : Own) (are : AreOwn g h own) (u : United) (is : IsUnited q g h u)
    (from target : ℕ) (from_is : from ≡ get_or u.first.now own.first 0) (target_is : target ≡ get_or u.second.now own.second 0) where
  abbrev nodes : ℕ
  nodes = length u.names.spans.now

  node_of : (k : GraphName) (p : ℕ) → IsOwnAt k p → (numbers : List ℕ) → NodesOf (names k) numbers (plain u.names) → (v : ℕ) → v ≡ get_or numbers p 0
      → (v < nodes) × (named (plain u.names) v ≡ name_or k.name)
  node_of k p o numbers n v e = let f = n.nodes p o.0 in rw (e, o.1) (f.0, f.1)

  from_named : (from < nodes) × (named (plain u.names) from ≡ name_or g.name)
  from_named = node_of g own.first are.0 u.first.now is.first from from_is

  target_named : (target < nodes) × (named (plain u.names) target ≡ name_or h.name)
  target_named = node_of h own.second are.1 u.second.now is.second target target_is

  -- the search is lent parts of tables with room for its nodes, beside a graph
  module _ (t : Tables) (room : Roomy g h t) (rows : List ℕ) (same_rows : length rows ≡ length t.rows.now) (steps starts : List ℕ) (steps_are : steps ≡ u.steps.now)
      (starts_long : length starts ≡ length (take (nodes + 1) t.starts.now)) where
    places_long : length (take nodes t.places.now) ≡ nodes
    places_long = length-take-le nodes t.places.now (omega (arith, is.names_count, room.places_room))

    pub question_tables : QuestionTables nodes steps starts from target (take nodes rows) (take nodes t.places.now)
    question_tables = record {
      tables =
          search_tables steps starts from (take nodes rows) (take nodes t.places.now) (named (plain u.names)) (by_question q g h) (rw (steps_are, places_long) is.table)
          (omega (arith, places_long, length-take-le (nodes + 1) t.starts.now (omega (arith, is.names_count, room.starts_room))))
          (length-take-le nodes rows (omega (arith, is.names_count, room.rows_for_names)) ∙ omega (arith, places_long)) (omega (arith, from_named.0, places_long));
      asked = omega (arith, target_named.0, places_long);
      named = omega (arith, places_long);
    }

    -- and with the index of the steps
    pub askable : Indexed u.steps.now starts → Askable nodes steps starts from target (take nodes rows) (take nodes t.places.now)
    askable index = tables_askable nodes steps starts from target (take nodes rows) (take nodes t.places.now) (rw steps_are index) question_tables

    pub replies : (out after : Bytes) (r : Given Bool) → RepliesRight (named (plain u.names)) steps (length (take nodes t.places.now)) from target out r after
        → Replies (answer_of q g h (length out)) out r after
    replies out after r right =
        let p = represents steps (length (take nodes t.places.now)) (named (plain u.names)) (by_question q g h) (relations_of q g h) (rw (steps_are, places_long) is.table)
        (question_stands q g h is.valid.0 is.valid.1) in
        rw (from_named.1, target_named.1) at (right (relations_of q g h) p)
