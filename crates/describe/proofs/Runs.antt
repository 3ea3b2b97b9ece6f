-- A run of steps, one at a time: the first and the rest, in the lines and in the search for the last empty name.
use mathlib.Core.Path.{◌≡◌, refl, sym, ◌∙◌}
use mathlib.Core.Bool.{Bool, true, false, cond, ◌||◌}
use mathlib.Core.List.{List, [], ◌∷◌, ◌++◌}
use Prim.Native.Nat.{ℕ, ◌+◌, ◌≤◌}
use native.Mathlib.Omega.{arith}
use Rattle.std.specs.Prelude.{◌==◌}
use lib.ListN.{length}
use borrow.Author.Tests.{ne_eqb}
use Rattle.model.specs.Bytes.{Bytes, is_empty}
use Rattle.model.specs.Describe.{StepFrom, any_empty, after_last_empty, step_lines, graph_line, graph_lines}
use Rattle.path_bytes.proofs.Stepping.{length_steps}
use Rattle.path_bytes.specs.Reading.{steps_at, StepsIn}
use Rattle.describe.specs.Lines.{relationship_line}

-- a path has few steps
pub few_steps : {p : Bytes} {e body n : ℕ} → StepsIn p e body n → length (steps_at p e body n) ≤ 12288
few_steps {p} {e} {body} {n} s = rw (length_steps p e body n) (omega (arith, s.entries.end))

-- ------------------------------------------------------------------ the lines

module _ {ls : List StepFrom} (s : StepFrom) {rest : List StepFrom} (e : ls ≡ s ∷ rest) (i : ℕ) where
  pub lines_turn : step_lines i ls ≡ relationship_line i s.kind ++ step_lines (i + 1) rest
  unfolding step_lines
  lines_turn = rw e

  pub graphs_turn : (last : Bytes) → graph_lines i ls last ≡ graph_line i s.name ++ graph_lines (i + 1) rest last
  unfolding graph_lines
  graphs_turn last = rw e

module _ {ls : List StepFrom} (e : ls ≡ []) (i : ℕ) where
  pub lines_end : step_lines i ls ≡ []
  unfolding step_lines
  lines_end = rw e

  pub graphs_end : (last : Bytes) → graph_lines i ls last ≡ graph_line i last
  unfolding graph_lines
  graphs_end last = rw e

-- ------------------------------------------------------------------ the last empty name

-- what is listed, with `listed` the steps behind the last empty name so far and ls those still to come
abbrev pub keeping : List StepFrom → List StepFrom → List StepFrom
keeping ls listed = cond (any_empty ls) (after_last_empty ls) listed

pub keeping_start : (ls : List StepFrom) → after_last_empty ls ≡ keeping ls ls
unfolding after_last_empty
keeping_start [] = refl
keeping_start (l ∷ ls) = go (is_empty l.name) (any_empty ls)
  where
    go : (t u : Bool) → cond u (after_last_empty ls) (cond t ls (l ∷ ls)) ≡ cond (t || u) (cond u (after_last_empty ls) (cond t ls (l ∷ ls))) (l ∷ ls)
    go true true = refl
    go true false = refl
    go false true = refl
    go false false = refl

pub keeping_empty : (l : StepFrom) (ls listed : List StepFrom) → is_empty l.name ≡ true → keeping (l ∷ ls) listed ≡ keeping ls ls
unfolding after_last_empty
keeping_empty l ls listed e = rw e

pub keeping_full : (l : StepFrom) (ls listed : List StepFrom) → is_empty l.name ≡ false → keeping (l ∷ ls) listed ≡ keeping ls listed
unfolding after_last_empty
keeping_full l ls listed e = rw e (go (any_empty ls))
  where
    go : (u : Bool) → cond u (cond u (after_last_empty ls) (l ∷ ls)) listed ≡ cond u (after_last_empty ls) listed
    go true = refl
    go false = refl

-- whether a name is empty, by its length
pub empty_by_length : (n : Bytes) (t : Bool) → t ≡ (length n == 0) → is_empty n ≡ t
empty_by_length [] t e = sym e
empty_by_length (x ∷ n) t e = sym (e ∙ ne_eqb (length (x ∷ n)) 0 λ q. omega arith)
