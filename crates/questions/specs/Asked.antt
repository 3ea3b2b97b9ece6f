-- The question of either kind: about any two buffers, and between the own names of two records.
use Rattle.std.specs.Prelude.{ℕ}
use Rattle.model.specs.Bytes.{Bytes}
use Rattle.model.specs.Record.{GraphName}
use Rattle.model.specs.Path.{Relations, subgraph_relations, all_relations, best_path}
use Rattle.model.specs.Outcome.{Answer, answered, sized, name_or, ask_subgraph, ask_full}
use Rattle.record.specs.Holds.{IsOwnAt}
use Rattle.union.specs.declared.steps.Question.{Question}
use Rattle.union.specs.declared.steps.Question.TheVariants as question
use Rattle.questions.specs.declared.question.Own.{Own}

abbrev pub ask_of : Question → Bytes → Bytes → ℕ → Answer
ask_of question.Full b c room = ask_full b c room
ask_of question.Subgraph b c room = ask_subgraph b c room

-- the relations that a question goes by
abbrev pub relations_of : Question → GraphName → GraphName → Relations
relations_of question.Full g h = all_relations g h
relations_of question.Subgraph g h = subgraph_relations g h

-- the places of the own names of both
abbrev pub AreOwn : GraphName → GraphName → Own → Type 0
AreOwn g h own = IsOwnAt g own.first × IsOwnAt h own.second

-- the answer to the question between two graphs that are named
abbrev pub answer_of : Question → GraphName → GraphName → ℕ → Answer
answer_of q g h room = sized room (answered (name_or g.name) (best_path (relations_of q g h) (name_or g.name) (name_or h.name)))
