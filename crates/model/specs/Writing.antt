-- The texts that a graph name is written as.
use Rattle.std.specs.Prelude.{List, [], ◌∷◌, ◌++◌, ℕ, Option, Some, None}
use Rattle.model.specs.Text.{text}
use Rattle.model.specs.Bytes.{Bytes}
use Rattle.model.specs.Record.{Pair, GraphName}

-- `before` the first name, `between` the two, and byte 10 after
unfoldable pub pair_lines : Bytes → ℕ → List Pair → Bytes
pair_lines before between [] = []
pair_lines before between (p ∷ ps) = before ++ p.from ++ (between ∷ p.to) ++ (10 ∷ []) ++ pair_lines before between ps

abbrev pub name_line : Bytes → Option Bytes → Bytes
name_line before None = []
name_line before (Some n) = before ++ n ++ (10 ∷ [])

-- `H<TAB>NM:Z:name`, `H<TAB>SG:Z:from,to`, `H<TAB>TL:Z:from,to`
unfoldable pub to_gfa_header_lines : GraphName → Bytes
to_gfa_header_lines g =
    name_line (text "H\tNM:Z:") g.name
    ++ pair_lines (text "H\tSG:Z:") 44 g.subgraph
    ++ pair_lines (text "H\tTL:Z:") 44 g.translation

-- `@RN<TAB>name`, `@SG<TAB>from<TAB>to`, `@TL<TAB>from<TAB>to`
unfoldable pub to_gaf_header_lines : GraphName → Bytes
to_gaf_header_lines g =
    name_line (text "@RN\t") g.name
    ++ pair_lines (text "@SG\t") 9 g.subgraph
    ++ pair_lines (text "@TL\t") 9 g.translation

-- a tag's value: `from,to` for each pair, semicolons between; absent where there is no pair
unfoldable pub more_relations : List Pair → Bytes
more_relations [] = []
more_relations (p ∷ ps) = (59 ∷ p.from) ++ (44 ∷ p.to) ++ more_relations ps

unfoldable pub relations_tag : List Pair → Option Bytes
relations_tag [] = None
relations_tag (p ∷ ps) = Some (p.from ++ (44 ∷ p.to) ++ more_relations ps)
