-- What a reading of header lines and of tags gives.
use Rattle.std.specs.Prelude.{Bool, cond, not, ◌&&◌, ◌||◌, List, [], ◌∷◌, ℕ, suc, ◌+◌, length, take, drop, get_or, eqb, leb, Option, Some, None}
use Rattle.model.specs.Text.{text}
use Rattle.model.specs.Bytes.{Bytes, same_bytes, is_empty, split}
use Rattle.model.specs.declared.Kind.{Kind}
use Rattle.model.specs.declared.Kind.TheVariants.{Subgraph, Translation}
use Rattle.model.specs.Record.{Pair, GraphName, empty, with_name, with_pair, judge}

-- a refusal of a reading: its number, the line (from 1; 0 for tags), the quoted part, as a place in the text, and the offset of what is
-- refused: a byte of the whole text, or of its tag's value
pub record Refusal : Type 0 where
  pub number : ℕ
  pub line : ℕ
  pub start : ℕ
  pub size : ℕ
  pub offset : ℕ

pub data Reading : Type 0 where
  done : GraphName → Reading
  refused : Refusal → Reading

-- one field, line or relation: the graph name after it, or the number of its fault
pub data Taken : Type 0 where
  took : GraphName → Taken
  wrong : ℕ → Taken

-- sizes are judged on what stands after the field
abbrev pub judged : GraphName → Taken
judged g = cond (eqb (judge g) 0) (took g) (wrong (judge g))

-- exactly two parts, neither empty
abbrev pub two_parts : List Bytes → Option Pair
two_parts [] = None
two_parts (a ∷ []) = None
two_parts (a ∷ b ∷ []) = cond (is_empty a || is_empty b) None (Some (record { from = a; to = b }))
two_parts (a ∷ b ∷ c ∷ ws) = None

abbrev pub or_wrong : ℕ → Option GraphName → Taken
or_wrong number None = wrong number
or_wrong number (Some g) = judged g

-- g with a pair of a kind more, where there is one
abbrev pub add_to : Kind → GraphName → Option Pair → Option GraphName
add_to kind g None = None
add_to kind g (Some p) = Some (with_pair kind p g)

abbrev pub is_typed : Bytes → Bool
is_typed f = leb 5 (length f) && eqb (get_or f 2 0) 58 && eqb (get_or f 4 0) 58

-- a field of an `H` line after its first: TAG:TYPE:VALUE, of which only type Z and the tags NM, SG and TL count
unfoldable pub typed_field : GraphName → Bytes → Taken
typed_field g f =
    cond (not (is_typed f)) (wrong 3)
    (cond (not (eqb (get_or f 3 0) 90)) (took g)
    (cond (same_bytes (take 2 f) (text "NM")) (judged (with_name (drop 5 f) g))
    (cond (same_bytes (take 2 f) (text "SG")) (or_wrong 4 (add_to Subgraph g (two_parts (split 44 (drop 5 f)))))
    (cond (same_bytes (take 2 f) (text "TL")) (or_wrong 5 (add_to Translation g (two_parts (split 44 (drop 5 f)))))
    (took g)))))

abbrev pub one_name : GraphName → List Bytes → Option GraphName
one_name g [] = None
one_name g (n ∷ []) = cond (is_empty n) None (Some (with_name n g))
one_name g (n ∷ m ∷ ws) = None

-- a line of three bytes that begins `@`, with its further fields
unfoldable pub gaf_line : GraphName → Bytes → List Bytes → Taken
gaf_line g head rest =
    cond (same_bytes head (text "@RN")) (or_wrong 6 (one_name g rest))
    (cond (same_bytes head (text "@SG")) (or_wrong 7 (add_to Subgraph g (two_parts rest)))
    (cond (same_bytes head (text "@TL")) (or_wrong 8 (add_to Translation g (two_parts rest)))
    (took g)))

abbrev pub after_taken : Taken → (GraphName → Reading) → (ℕ → Reading) → Reading
after_taken (took g) go stop = go g
after_taken (wrong n) go stop = stop n

abbrev pub after_reading : Reading → (GraphName → Reading) → Reading
after_reading (done g) go = go g
after_reading (refused r) go = refused r

-- the faults that quote a part of the text: 2 to 10
abbrev pub quotes : ℕ → Bool
quotes n = leb 2 n && leb n 10

-- a fault in what begins at `begin`, which is the line for 1 and the field for 11 to 14: these quote nothing, and have its offset; 2 to 10
-- quote the part from `start`, `size` long, and have the offset of that
abbrev pub refuse : ℕ → ℕ → ℕ → ℕ → ℕ → Reading
refuse line begin start size n =
    refused (record { number = n; line = line; start = cond (quotes n) start 0; size = cond (quotes n) size 0; offset = cond (quotes n) start begin })

-- the fields of an `H` line, from the left; the first of them begins at `start`
unfoldable pub typed_fields : ℕ → ℕ → List Bytes → GraphName → Reading
typed_fields line start [] g = done g
typed_fields line start (f ∷ fs) g =
    after_taken (typed_field g f) (typed_fields line (start + length f + 1) fs) (refuse line start start (length f))

abbrev pub is_gaf_head : Bytes → Bool
is_gaf_head f = eqb (length f) 3 && eqb (get_or f 0 0) 64

-- one line that begins at `start`, by its fields; an `@` line counts as one field, which begins with the second
unfoldable pub line_fields : ℕ → ℕ → Bytes → List Bytes → GraphName → Reading
line_fields line start whole [] g = refuse line start 0 0 1
line_fields line start whole (head ∷ []) g = refuse line start 0 0 1
line_fields line start whole (head ∷ f ∷ fs) g =
    cond (same_bytes head (text "H")) (typed_fields line (start + length head + 1) (f ∷ fs) g)
    (cond (is_gaf_head head) (after_taken (gaf_line g head (f ∷ fs)) done (refuse line (start + length head + 1) start (length whole)))
    (refuse line start start (length head) 2))

unfoldable pub lines_from : ℕ → ℕ → List Bytes → GraphName → Reading
lines_from line start [] g = done g
lines_from line start (l ∷ ls) g =
    after_reading (line_fields line start l (split 9 l) g) (lines_from (suc line) (start + length l + 1) ls)

-- the lines of a text: split at byte 10, a final one ending the last line; an empty text has none
unfoldable pub without_last_empty : List Bytes → List Bytes
without_last_empty [] = []
without_last_empty (w ∷ []) = cond (is_empty w) [] (w ∷ [])
without_last_empty (w ∷ v ∷ ws) = w ∷ without_last_empty (v ∷ ws)

unfoldable pub from_header_lines : Bytes → Reading
from_header_lines t = lines_from 1 0 (without_last_empty (split 10 t)) empty

-- the number of a wrong relation in the tag of a kind
abbrev pub tag_number : Kind → ℕ
tag_number Subgraph = 9
tag_number Translation = 10

-- the relations of one tag, between semicolons
unfoldable pub tag_relations : ℕ → (GraphName → Option Pair → Option GraphName) → ℕ → List Bytes → GraphName → Reading
tag_relations n add start [] g = done g
tag_relations n add start (r ∷ rs) g =
    after_taken (or_wrong n (add g (two_parts (split 44 r)))) (tag_relations n add (start + length r + 1) rs) (refuse 0 start start (length r))

unfoldable pub tag_value : ℕ → (GraphName → Option Pair → Option GraphName) → Option Bytes → GraphName → Reading
tag_value n add None g = done g
tag_value n add (Some v) g = tag_relations n add 0 (split 59 v) g

-- the own name, which begins at 0
unfoldable pub name_value : Option Bytes → GraphName → Reading
name_value None g = done g
name_value (Some v) g = after_taken (judged (with_name v g)) done (refuse 0 0 0 0)

unfoldable pub from_tags : Option Bytes → Option Bytes → Option Bytes → Reading
from_tags n s t =
    after_reading (name_value n empty) λ g. after_reading (tag_value 9 (add_to Subgraph) s g) (tag_value 10 (add_to Translation) t)
