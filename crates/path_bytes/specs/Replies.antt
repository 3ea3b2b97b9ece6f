-- What a path question gives, beside the definitions of `model`: whether there is a path, and what the output then holds.
use Rattle.std.specs.Prelude.{◌≡◌, Bool, true, false, List, ℕ, ◌<◌, length, Option, Ok, Err, Some, None}
use Rattle.model.specs.Bytes.{Bytes}
use Rattle.model.specs.Opening.{Given}
use Rattle.model.specs.Path.{Relations, best_path}
use Rattle.model.specs.Outcome.{Answer, answered, sized, output_after}
use Rattle.model.specs.Record.{compare_pairs}
use Rattle.model.specs.Statements.{Ascending}
use Rattle.search.specs.Promise.{Searchable, SearchTables}
use Rattle.search.specs.Names.{StepTable}
use Rattle.search.specs.Related.{related}

-- yes or no, without the path's bytes
abbrev pub reply_of : Answer → Given Bool
reply_of (Err e) = Err e
reply_of (Ok None) = Ok false
reply_of (Ok (Some bytes)) = Ok true

-- the reply, and the output after it
abbrev pub Replies : Answer → Bytes → Given Bool → Bytes → Type 0
Replies a out r o = (r ≡ reply_of a) × (o ≡ output_after a out)

-- tables for a question between two nodes, each with a name
pub record Askable (names : ℕ) (steps starts : List ℕ) (from target : ℕ) (q : List ℕ) (places : List (Option ℕ)) : Type 0 where
  pub tables : Searchable steps starts from q places
  pub asked : target < length places
  pub named : names ≡ length places

-- the same of a graph, which keeps that the starts are the index of the steps
pub record QuestionTables (names : ℕ) (steps starts : List ℕ) (from target : ℕ) (q : List ℕ) (places : List (Option ℕ)) : Type 0 where
  pub tables : SearchTables steps starts from q places
  pub asked : target < length places
  pub named : names ≡ length places

-- the table of steps between n nodes stands for the relations of these lists, which are ascending
pub record Represents (steps : List ℕ) (n : ℕ) (name : ℕ → Bytes) (rs : Relations) : Type 0 where
  pub table : StepTable steps n name (related rs)
  pub subgraphs : Ascending compare_pairs rs.subgraphs
  pub translations : Ascending compare_pairs rs.translations

-- the right reply to the question from node `from` to node `target`, whatever relations the table of steps stands for
abbrev pub RepliesRight : (ℕ → Bytes) → List ℕ → ℕ → ℕ → ℕ → Bytes → Given Bool → Bytes → Type 0
RepliesRight name steps n from target out r o =
    (rs : Relations) → Represents steps n name rs
    → Replies (sized (length out) (answered (name from) (best_path rs (name from) (name target)))) out r o
