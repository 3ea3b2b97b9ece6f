-- The texts as they are written: lines and relations by what stands around the names.
use mathlib.Core.Path.{◌≡◌, refl, sym, ap, ◌∙◌}
use mathlib.Core.List.{List, [], ◌∷◌, ◌++◌, append_assoc, append-nil}
use mathlib.Core.Logic.{◌≢◌}
use lib.ListN.{length}
use Rattle.std.specs.Prelude.{Some, None}
use Prim.Native.Nat.{ℕ}
use native.Mathlib.Omega.{arith}
use Rattle.model.specs.Bytes.{Bytes}
use Rattle.model.specs.Record.{Pair, GraphName}
use Rattle.model.specs.Writing.{name_line, pair_lines, more_relations, relations_tag}
use Rattle.export.specs.Texts.{pair_text, pair_texts, value_text}

-- ------------------------------------------------------------------ lines and relations

lines_run : (before : Bytes) (between : ℕ) (ps : List Pair) → pair_lines before between ps ≡ pair_texts before between (10 ∷ []) ps
unfolding pair_lines pair_texts
lines_run before between [] = refl
lines_run before between (p ∷ ps) = rw (lines_run before between ps) (simp append_assoc)

pub header_parts : (name subgraph translation : Bytes) (between : ℕ) (g : GraphName) → name_line name g.name ++ pair_lines subgraph between g.subgraph ++ pair_lines translation between g.translation
    ≡ name_line name g.name ++ pair_texts subgraph between (10 ∷ []) g.subgraph ++ pair_texts translation between (10 ∷ []) g.translation
header_parts name subgraph translation between g = rw (lines_run subgraph between g.subgraph, lines_run translation between g.translation) refl

-- a comma and a name, as they are appended
comma_name : (s to : Bytes) → s ++ (44 ∷ to) ≡ s ++ (44 ∷ []) ++ to ++ []
comma_name s to = sym (append-nil _ ∙ append_assoc s (44 ∷ []) to)

relations_run : (ps : List Pair) → more_relations ps ≡ pair_texts (59 ∷ []) 44 [] ps
unfolding more_relations pair_texts
relations_run [] = refl
relations_run (p ∷ ps) = rw (relations_run ps) (ap (λ (t : Bytes). t ++ pair_texts (59 ∷ []) 44 [] ps) (comma_name (59 ∷ p.from) p.to))

-- the first pair alone, and the further ones
pub relations_text : {ps rest : List Pair} {p : Pair} → ps ≡ p ∷ rest → value_text (relations_tag ps) ≡ pair_text [] 44 [] p.from p.to ++ pair_texts (59 ∷ []) 44 [] rest
unfolding relations_tag pair_texts
relations_text {ps} {rest} {p} e = rw (e, relations_run rest) (ap (λ (t : Bytes). t ++ pair_texts (59 ∷ []) 44 [] rest) (comma_name p.from p.to))

pub relations_empty : {ps : List Pair} → ps ≡ [] → value_text (relations_tag ps) ≡ []
unfolding relations_tag
relations_empty e = rw e

-- whether there is a value
pub relations_none : (ps : List Pair) → length ps ≡ 0 → relations_tag ps ≡ None
unfolding relations_tag
relations_none [] e = refl
relations_none (p ∷ ps) e = absurd (omega arith)

pub relations_some : (ps : List Pair) → length ps ≢ 0 → relations_tag ps ≡ Some (value_text (relations_tag ps))
unfolding relations_tag
relations_some [] n = absurd (n refl)
relations_some (p ∷ ps) n = refl
