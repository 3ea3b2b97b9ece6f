-- The texts that a record is written as, by what stands around its names, whichever the format.
use Rattle.std.specs.Prelude.{◌≡◌, Bool, ◌&&◌, List, [], ◌∷◌, ◌++◌, ℕ, Option, Some, None, Ok, length}
use Rattle.model.specs.Bytes.{Bytes}
use Rattle.model.specs.Record.{Pair, GraphName}
use Rattle.model.specs.Questions.{asked}
use Rattle.model.specs.Opening.{Given}
use Rattle.model.specs.Writing.{name_line, pair_lines}
use Rattle.model.specs.Written.{within, size_written, output_with, Tags, fits}
use Rattle.std.specs.Borrow.{MutBor}
use Rattle.std.specs.Fn.{Shared}
use Rattle.export.specs.declared.header.Format.{Format}
use Rattle.text.specs.Appending.{Appends}

-- a pair's two names with `before`, `between` and `after`
abbrev pub pair_text : Bytes → ℕ → Bytes → Bytes → Bytes → Bytes
pair_text before between after from to = before ++ from ++ (between ∷ []) ++ to ++ after

-- each pair of a run
unfoldable pub pair_texts : Bytes → ℕ → Bytes → List Pair → Bytes
pair_texts before between after [] = []
pair_texts before between after (p ∷ ps) = pair_text before between after p.from p.to ++ pair_texts before between after ps

-- the lines of a format
abbrev pub header_lines : Format → GraphName → Bytes
header_lines f g = name_line f.name.now g.name ++ pair_lines f.subgraph.now f.between g.subgraph ++ pair_lines f.translation.now f.between g.translation

-- what their writer gives, as `gfa_written` and `gaf_written` of `model`
unfoldable pub lines_written : Format → Bytes → ℕ → Given Bytes
lines_written f b room = within room (asked b (header_lines f))

-- a tag's value; an absent one has no bytes
abbrev pub value_text : Option Bytes → Bytes
value_text None = []
value_text (Some t) = t

-- whether each value fits an output of so many bytes
abbrev pub all_fit : Tags → ℕ → ℕ → ℕ → Bool
all_fit v n s t = fits v.name n && (fits v.subgraph s && fits v.translation t)

-- each call of an appender appends this text to the front of the output that it is lent
abbrev pub AppendsText : {F : Type 0} → Shared F (MutBor Bytes × Unit {0}) (ℕ × (MutBor Bytes × Unit {0})) → F → Bytes → Type 0
AppendsText g f t = (out : MutBor Bytes) (size : ℕ) (after : MutBor Bytes) → g.post f (out, tt) (size, (after, tt)) → Appends out.now 0 t size after.now

-- a text written to the front of an output if it fits: its length, and what the output then holds
pub record Writes (text out : Bytes) (result : Given ℕ) (after : Bytes) : Type 0 where
  pub size : result ≡ size_written (within (length out) (Ok text))
  pub output : after ≡ output_with (within (length out) (Ok text)) out
