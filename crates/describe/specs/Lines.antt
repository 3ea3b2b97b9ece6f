-- The lines of a description.
use Rattle.std.specs.Prelude.{◌++◌, ℕ, ◌+◌}
use Rattle.model.specs.declared.Kind.{Kind}
use Rattle.model.specs.Text.{text}
use Rattle.model.specs.Bytes.{Bytes}
use Rattle.model.specs.Numbers.{decimal}
use Rattle.model.specs.Describe.{relation_words}

-- the line of the step from graph i to the next
abbrev pub relationship_line : ℕ → Kind → Bytes
relationship_line i k = text "Graph " ++ decimal i ++ relation_words k ++ decimal (i + 1) ++ text "\n"
