-- The description of how two graphs are related, as the Rust writes it.
use Rattle.std.specs.Prelude.{Bool, false, cond, ◌||◌, List, [], ◌∷◌, ◌++◌, ℕ, ◌+◌, length, Option, Some, None}
use Rattle.model.specs.Text.{text}
use Rattle.model.specs.Bytes.{Bytes, is_empty}
use Rattle.model.specs.Record.{GraphName}
use Rattle.model.specs.Numbers.{decimal}
use Rattle.model.specs.declared.Kind.{Kind}
use Rattle.model.specs.declared.Kind.TheVariants.{Subgraph, Translation}
use Rattle.model.specs.Path.{Step, full_path}

-- a name, and the kind of the step that leaves it
pub record StepFrom : Type 0 where
  pub name : Bytes
  pub kind : Kind

-- each name of a path but the last
unfoldable pub steps_from : Bytes → List Step → List StepFrom
steps_from a [] = []
steps_from a (s ∷ ss) = record { name = a; kind = s.kind } ∷ steps_from s.next ss

abbrev pub any_empty : List StepFrom → Bool
any_empty [] = false
any_empty (l ∷ ls) = is_empty l.name || any_empty ls

-- what follows the last empty name; all where none is empty
unfoldable pub after_last_empty : List StepFrom → List StepFrom
after_last_empty [] = []
after_last_empty (l ∷ ls) = cond (any_empty ls) (after_last_empty ls) (cond (is_empty l.name) ls (l ∷ ls))

abbrev pub name_is_for : ℕ → Bytes → Bytes
name_is_for n desc = text "Name " ++ decimal n ++ text " is for " ++ desc ++ text "\n"

abbrev pub relation_words : Kind → Bytes
relation_words Subgraph = text " is a subgraph of graph "
relation_words Translation = text " translates to graph "

unfoldable pub step_lines : ℕ → List StepFrom → Bytes
step_lines i [] = []
step_lines i (l ∷ ls) = text "Graph " ++ decimal i ++ relation_words l.kind ++ decimal (i + 1) ++ text "\n" ++ step_lines (i + 1) ls

abbrev pub graph_line : ℕ → Bytes → Bytes
graph_line i name = decimal i ++ text "\t" ++ name ++ text "\n"

-- the listed names, numbered from i, and then the start of the path again
unfoldable pub graph_lines : ℕ → List StepFrom → Bytes → Bytes
graph_lines i [] start = graph_line i start
graph_lines i (l ∷ ls) start = graph_line i l.name ++ graph_lines (i + 1) ls start

abbrev pub describe_path : Bytes → List StepFrom → Bytes → Bytes → Bytes
describe_path start ls from_desc to_desc =
    name_is_for 1 from_desc ++ step_lines 1 ls ++ name_is_for (length ls + 1) to_desc ++ text "With graph names:\n" ++ graph_lines 1 ls start

abbrev pub or_no_name : Option Bytes → Bytes
or_no_name None = text "(no name)"
or_no_name (Some n) = n

-- with no path either way the exchanged order remains
abbrev pub describe_none : Option Bytes → Option Bytes → Bytes → Bytes → Bytes
describe_none from to from_desc to_desc =
    name_is_for 1 from_desc ++ name_is_for 2 to_desc ++ text "With graph names:\n" ++ graph_line 1 (or_no_name from) ++ graph_line 2 (or_no_name to)

abbrev pub described : Option Bytes → Bytes → Bytes → Option (List Step) → Bytes → Bytes
described a from_desc to_desc None otherwise = otherwise
described a from_desc to_desc (Some ss) otherwise = describe_path (or_no_name a) (after_last_empty (steps_from (or_no_name a) ss)) from_desc to_desc

unfoldable pub describe_relationship : GraphName → GraphName → Bytes → Bytes → Bytes
describe_relationship g h self_desc other_desc =
    described g.name self_desc other_desc (full_path g h)
    (described h.name other_desc self_desc (full_path h g)
    (describe_none h.name g.name other_desc self_desc))
