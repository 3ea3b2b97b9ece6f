-- What is left of a reading at a place of the text, and what one field more makes of it.
use Rattle.std.specs.Prelude.{◌≡◌, cond, ◌||◌, List, [], ◌∷◌, ℕ, suc, ◌+◌, ◌-◌, ◌≤◌, ◌<◌, length, take, drop, ltb}
use Rattle.model.specs.Text.{text}
use Rattle.model.specs.Bytes.{Bytes, same_bytes, index_of, split}
use Rattle.model.specs.Record.{GraphName}
use Rattle.model.specs.Reading.{Reading, done, after_taken, after_reading, refuse, typed_fields, is_gaf_head, line_fields, lines_from, add_to, tag_number, tag_relations, without_last_empty}
use Rattle.fields.specs.Fields.{apply}
use Rattle.fields.specs.Contents.{meaning_of, PlacesIn}
use Rattle.fields.specs.declared.field.Source.{Source}
use Rattle.fields.specs.declared.field.Source.TheVariants.{Header, Tag}
use Rattle.fields.specs.declared.step.Tally.{Tally}
use Rattle.fields.specs.declared.line.Field.{Field}
use Rattle.fields.specs.declared.step.Fields.{Fields}

-- the lines from a place on
abbrev pub lines_at : Bytes → ℕ → List Bytes
lines_at t at = without_last_empty (split 10 (drop at t))

-- the parts from a place on of what ends before `stop`; none from `stop` on
abbrev pub parts_at : ℕ → Bytes → ℕ → ℕ → List Bytes
parts_at sep t stop at = cond (ltb at stop) (split sep (drop at (take (stop - 1) t))) []

-- the rest of a reading from `at` on. Of header lines, when `lines` have been begun: the fields of the last, if it is an `H` line, up to
-- `stop`, and the lines from there on. Of a tag: the relations
unfoldable pub rest_of : Source → Bytes → ℕ → ℕ → ℕ → GraphName → Reading
rest_of Header t lines stop at g = after_reading (typed_fields lines at (parts_at 9 t stop at) g) (lines_from (suc lines) stop (lines_at t stop))
rest_of (Tag k) t lines stop at g = tag_relations (tag_number k) (add_to k) at (parts_at 59 t stop at) g

-- where the first part stops: header lines begin with a line, a tag with a relation
abbrev pub first_stop : Source → Bytes → ℕ
first_stop Header t = 0
first_stop (Tag k) t = length t + 1

-- what is left of a reading, when `lines` have been begun
abbrev pub left_of : Fields → ℕ → GraphName → Reading
left_of left lines = rest_of left.source left.text.now lines left.stop left.at

-- a tag has no lines
abbrev pub NoLines : Source → Tally → Type 0
NoLines Header tally = Unit {0}
NoLines (Tag k) tally = tally.lines ≡ 0

-- no more lines and fields are counted than bytes passed
pub record Tallies (left : Fields) (tally : Tally) : Type 0 where
  pub lines : tally.lines ≤ left.at
  pub fields : tally.fields ≤ left.at
  pub tag : NoLines left.source tally

-- a field refused with a number, where the tally counts it
abbrev pub refuse_field : Field → Tally → ℕ → Reading
refuse_field f tally = refuse tally.lines f.offset f.start f.size

-- where the first field that counts begins in a line from `at` on, by the line's fields: the second of an `H` or an `@` line; of any other
-- line, which is refused, the first
abbrev pub line_begin : ℕ → List Bytes → ℕ
line_begin at [] = at
line_begin at (head ∷ []) = at
line_begin at (head ∷ f ∷ fs) = cond (same_bytes head (text "H") || is_gaf_head head) (at + length head + 1) at

-- the byte of the text at which the next field begins from `at` on: a part of what stops at `stop`, or the first that counts of the next line
abbrev pub field_begin : Bytes → ℕ → ℕ → ℕ
field_begin t stop at = cond (ltb at stop) at (line_begin at (split 9 (take (index_of 10 (drop at t)) (drop at t))))

-- the part of the text that a field's places are counted in
abbrev pub part_of : Bytes → Field → Bytes
part_of t f = take f.size (drop f.start t)

-- f is a whole line that begins at `at`, read as one field: it does what the line does
pub record IsLine (line : Bytes) (at : ℕ) (f : Field) : Type 0 where
  pub reading : (lines : ℕ) (g : GraphName) → line_fields lines at line (split 9 line) g
      ≡ after_taken (apply g (meaning_of (take f.size (drop (f.start - at) line)) f.content)) done (refuse lines f.offset f.start f.size)
  pub begins : f.offset ≡ line_begin at (split 9 line)
  pub behind : at ≤ f.start
  pub part : f.start + f.size ≤ at + length line
  pub places : PlacesIn (take f.size (drop (f.start - at) line)) f.content

-- f is the next field, and `after` with `begun` is what stands behind it: what was left is what f does, and then what is left
pub record Reads (before : Fields) (tally : Tally) (f : Field) (after : Fields) (begun : Tally) : Type 0 where
  pub reading : (g : GraphName) → left_of before tally.lines g
      ≡ after_taken (apply g (meaning_of (part_of before.text.now f) f.content)) (left_of after begun.lines) (refuse_field f begun)
  pub begins : f.offset ≡ field_begin before.text.now before.stop before.at
  pub part : f.start + f.size ≤ length before.text.now
  pub places : PlacesIn (part_of before.text.now f) f.content
  pub onward : before.at < after.at
  pub source : after.source ≡ before.source
  pub text : after.text.now ≡ before.text.now
  pub counts : Tallies after begun
  pub counted : begun.fields ≡ tally.fields + 1
