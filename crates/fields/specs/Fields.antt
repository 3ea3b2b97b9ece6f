-- What a field, an `@` line or a relation of a tag says by itself, apart from the graph name that it is read into.
use Rattle.std.specs.Prelude.{cond, not, List, [], ◌∷◌, ℕ, take, drop, get_or, eqb, Option, Some, None}
use Rattle.model.specs.declared.Kind.{Kind}
use Rattle.model.specs.declared.Kind.TheVariants.{Subgraph, Translation}
use Rattle.model.specs.Text.{text}
use Rattle.model.specs.Bytes.{Bytes, same_bytes, is_empty, split}
use Rattle.model.specs.Record.{Pair, GraphName, with_name, with_pair}
use Rattle.model.specs.Reading.{Taken, took, wrong, judged, is_typed, two_parts, tag_number}
use Rattle.fields.specs.declared.field.Source.{Source}
use Rattle.fields.specs.declared.field.Source.TheVariants.{Header, Tag}

-- the number of its fault, nothing that counts, an own name, or a pair
pub data FieldMeaning : Type 0 where
  fault : ℕ → FieldMeaning
  nothing : FieldMeaning
  named : Bytes → FieldMeaning
  related : Kind → Pair → FieldMeaning

-- a field taken into a graph name
abbrev pub apply : GraphName → FieldMeaning → Taken
apply g (fault n) = wrong n
apply g nothing = took g
apply g (named n) = judged (with_name n g)
apply g (related k p) = judged (with_pair k p g)

-- a pair of a kind, or the number for its absence
abbrev pub related_by : Kind → ℕ → Option Pair → FieldMeaning
related_by k n None = fault n
related_by k n (Some p) = related k p

-- a relation of a tag, which is of the tag's kind
abbrev pub classify_relation : Kind → ℕ → Bytes → FieldMeaning
classify_relation k n r = related_by k n (two_parts (split 44 r))

-- the tags of relations, with the numbers for a wrong subgraph and a wrong translation
abbrev pub related_by_tag : Bytes → ℕ → ℕ → List Bytes → FieldMeaning
related_by_tag tag n m ws =
    cond (same_bytes tag (text "SG")) (related_by Subgraph n (two_parts ws))
    (cond (same_bytes tag (text "TL")) (related_by Translation m (two_parts ws))
    nothing)

-- a field of type Z: of its tags NM, SG and TL count
unfoldable pub classify_string : Bytes → FieldMeaning
classify_string f = cond (same_bytes (take 2 f) (text "NM")) (named (drop 5 f)) (related_by_tag (take 2 f) 4 5 (split 44 (drop 5 f)))

-- a field of an `H` line after its first
unfoldable pub classify_typed : Bytes → FieldMeaning
classify_typed f = cond (not (is_typed f)) (fault 3) (cond (not (eqb (get_or f 3 0) 90)) nothing (classify_string f))

-- exactly one further field, and not an empty one
abbrev pub one_named : List Bytes → FieldMeaning
one_named [] = fault 6
one_named (n ∷ []) = cond (is_empty n) (fault 6) (named n)
one_named (n ∷ m ∷ ws) = fault 6

-- a line that begins `@`, by the tag behind that and its further fields
unfoldable pub classify_gaf : Bytes → List Bytes → FieldMeaning
classify_gaf tag rest = cond (same_bytes tag (text "RN")) (one_named rest) (related_by_tag tag 7 8 rest)

-- what stands between separators: a field of an `H` line, or a relation of a tag
abbrev pub classify_part : Source → Bytes → FieldMeaning
classify_part Header f = classify_typed f
classify_part (Tag k) f = classify_relation k (tag_number k) f

abbrev pub separator_of : Source → ℕ
separator_of Header = 9
separator_of (Tag k) = 59
