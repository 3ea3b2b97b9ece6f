-- The laws that the definitions must be shown to have, each as a type.
use Rattle.std.specs.Prelude.{Result, ◌≡◌, Bool, true, false, cond, ◌&&◌, ◌||◌, ◌⊎◌, ◌↔◌, ◌≢◌, ℕ, zero, suc, ◌+◌, ◌-◌, ◌≤◌, ◌<◌, length, take, drop, get_or, replicate, eqb, leb, Option, Some, None, Ok, Err}
use mathlib.Core.List.{List, [], ◌∷◌, Memᴰ}
use Rattle.model.specs.Text.{text}
use Rattle.model.specs.Bytes.{Bytes, compare_bytes, split}
use Rattle.std.specs.declared.cmp.Ordering.{Ordering}
use Rattle.std.specs.declared.cmp.Ordering.TheVariants.{Less}
use Rattle.model.specs.declared.Kind.{Kind}
use Rattle.model.specs.declared.Kind.TheVariants.{Subgraph, Translation}
use Rattle.model.specs.declared.fault.Fault.TheVariants.{OutputShort}
use Rattle.model.specs.Record.{Pair, GraphName, empty, compare_pairs, judge, names}
use Rattle.model.specs.Layout.{record_length, encode, decode}
use Rattle.model.specs.Reading.{Refusal, Reading, done, refused, add_to, quotes, typed_fields, line_fields, from_header_lines, tag_number, tag_relations, from_tags}
use Rattle.model.specs.Writing.{to_gfa_header_lines, to_gaf_header_lines, relations_tag}
use Rattle.model.specs.Path.{Step, path_bytes}
use Rattle.model.specs.Outcome.{Outcome, read_into, read_tags_into, refusal_into, new_record, add_subgraph, add_translation, add_relationships, make_subgraph_of, add_translation_to}
use Rattle.model.specs.Outcome.{Answer, ask_subgraph, ask_full, output_after, answer_number, answer_value}
use Rattle.model.specs.Questions.{counts_in, name_in, name_at_in, pair_at_in, is_same_in}
use Rattle.model.specs.Opening.{Given, number_of, value_or}
use Rattle.model.specs.Written.{gfa_written, gaf_written, message_written, relationship_written, output_with, Tags, tags_written, output_with_tag}
use Rattle.model.specs.Strict.{letter, Matches, value_of, strict}

-- ------------------------------------------------------------------ records

-- strictly ascending: none twice
unfoldable pub Ascending : {A : Type 0} → (A → A → Ordering) → List A → Type 0
Ascending cmp [] = Unit {0}
Ascending cmp (x ∷ []) = Unit {0}
Ascending cmp (x ∷ y ∷ ys) = (cmp x y ≡ Less) × Ascending cmp (y ∷ ys)

-- a graph name within the sizes of docs/FORMAT.md
pub record Valid (g : GraphName) : Type 0 where
  pub subgraphs : Ascending compare_pairs g.subgraph
  pub translations : Ascending compare_pairs g.translation
  pub sizes : judge g ≡ 0

-- equal meaning is equal bytes, and every record has a meaning
abbrev pub Encoded : Type 0
Encoded = (g : GraphName) → Valid g → decode (encode g) ≡ Some g

abbrev pub Decoded : Type 0
Decoded = (b : Bytes) (g : GraphName) → decode b ≡ Some g → Valid g × (b ≡ encode g)

-- ------------------------------------------------------------------ reading back

abbrev pub Without : ℕ → Bytes → Type 0
Without x s = Memᴰ x s → ⊥

abbrev pub AllNames : (Bytes → Type 0) → GraphName → Type 0
AllNames P g = (n : Bytes) → Memᴰ n (names g) → P n

abbrev pub AllPairNames : (Bytes → Type 0) → GraphName → Type 0
AllPairNames P g = (p : Pair) → Memᴰ p g.subgraph ⊎ Memᴰ p g.translation → P p.from × P p.to

abbrev pub GafReadsBack : Type 0
GafReadsBack = (g : GraphName) → Valid g → AllNames (λ n. (n ≢ []) × Without 9 n × Without 10 n) g → from_header_lines (to_gaf_header_lines g) ≡ done g

abbrev pub GfaReadsBack : Type 0
GfaReadsBack =
    (g : GraphName) → Valid g → AllNames (λ n. Without 9 n × Without 10 n) g → AllPairNames (λ n. (n ≢ []) × Without 44 n) g
    → from_header_lines (to_gfa_header_lines g) ≡ done g

abbrev pub TagsReadBack : Type 0
TagsReadBack =
    (g : GraphName) → Valid g → AllPairNames (λ n. (n ≢ []) × Without 44 n × Without 59 n) g
    → from_tags g.name (relations_tag g.subgraph) (relations_tag g.translation) ≡ done g

-- ------------------------------------------------------------------ where a refusal is

-- a part between separators begins at i: behind one, or with the text
abbrev pub Behind : ℕ → Bytes → ℕ → Type 0
Behind sep t i = (0 < i) × (get_or t (i - 1) 0 ≡ sep)

abbrev pub Begins : ℕ → Bytes → ℕ → Type 0
Begins sep t i = (i ≡ 0) ⊎ Behind sep t i

-- what stands at the offset, as long as what is quoted
abbrev pub standing : Bytes → Refusal → Bytes
standing t r = take r.size (drop r.offset t)

-- the quoted part is what stands there, and read by itself it is refused in this very way
pub record Quoted (t : Bytes) (r : Refusal) (read : Bytes → Reading) : Type 0 where
  pub start : r.start ≡ r.offset
  pub within : r.offset + r.size ≤ length t
  pub alone : read (standing t r) ≡ refused r

-- a part of header lines read by itself, as its number quotes it: a line's first field, a field of an `H` line, a whole line
abbrev pub part_alone : Refusal → Bytes → Reading
part_alone r w =
    cond (eqb r.number 2) (line_fields r.line r.offset w (w ∷ [] ∷ []) empty)
    (cond (leb r.number 5) (typed_fields r.line r.offset (w ∷ []) empty)
    (line_fields r.line r.offset w (split 9 w) empty))

-- the numbers whose offset is that of a line; the others of header lines have that of a field
abbrev pub of_line : ℕ → Bool
of_line n = leb n 2 || (leb 6 n && leb n 8)

-- the offset is a place of the text, and in the line that is told: the text up to there has that many lines
pub record PlacedInLines (t : Bytes) (r : Refusal) : Type 0 where
  pub inside : r.offset ≤ length t
  pub lines : length (split 10 (take r.offset t)) ≡ r.line
  pub quoted : quotes r.number ≡ true → Quoted t r (part_alone r)
  pub line : of_line r.number ≡ true → Begins 10 t r.offset
  pub field : of_line r.number ≡ false → Behind 9 t r.offset

-- a relation of a tag's value begins at the offset; it is the quoted one
abbrev pub BeginsIn : Option Bytes → Refusal → Type 0
BeginsIn None r = ⊥
BeginsIn (Some v) r = (r.offset ≤ length v) × Begins 59 v r.offset

abbrev pub QuotedIn : Kind → Option Bytes → Refusal → Type 0
QuotedIn k None r = ⊥
QuotedIn k (Some v) r = Quoted v r (λ w. tag_relations (tag_number k) (add_to k) r.offset (w ∷ []) empty)

-- the value of the tag of a kind
abbrev pub tag_of : Kind → Option Bytes → Option Bytes → Option Bytes
tag_of Subgraph s t = s
tag_of Translation s t = t

-- the offset of a wrong relation is counted in the tag of its kind; that of 11 to 14 in either tag, or it is 0, as for the own name
pub record PlacedInTags (s t : Option Bytes) (r : Refusal) : Type 0 where
  pub relation : (k : Kind) → r.number ≡ tag_number k → BeginsIn (tag_of k s t) r × QuotedIn k (tag_of k s t) r
  pub sizes : 10 < r.number → (r.offset ≡ 0) ⊎ ((k : Kind) × BeginsIn (tag_of k s t) r)

pub record OffsetRight : Type 0 where
  pub header_lines : (t : Bytes) (r : Refusal) → from_header_lines t ≡ refused r → PlacedInLines t r
  pub tags : (n s t : Option Bytes) (r : Refusal) → from_tags n s t ≡ refused r → PlacedInTags s t r

-- ------------------------------------------------------------------ numbers and refusals (demand 1)

-- an entry on a record buffer: its number is one of docs/FORMAT.md's, the buffer keeps its length, and one of the wrong size is not written
pub record Bounded (entry : Bytes → Outcome) : Type 0 where
  pub number : (b : Bytes) → (entry b).number ≤ 18
  pub size : (b : Bytes) → length (entry b).buffer ≡ length b
  pub wrong : (b : Bytes) → length b ≢ record_length → ((entry b).number ≡ 15) × ((entry b).buffer ≡ b)

-- a refused reading, or `new`, leaves the empty record; 15 speaks of the buffer's size alone, and then nothing is written
pub record LeavesEmpty (entry : Bytes → Outcome) : Type 0 where
  pub bounded : Bounded entry
  pub refused : (b : Bytes) → (entry b).number ≢ 0 → (entry b).number ≢ 15 → (entry b).buffer ≡ replicate record_length 0
  pub fifteen : (b : Bytes) → (entry b).number ≡ 15 → length b ≢ record_length

-- a refused change leaves the buffer
pub record LeavesRecord (entry : Bytes → Outcome) : Type 0 where
  pub bounded : Bounded entry
  pub refused : (b : Bytes) → (entry b).number ≢ 0 → (entry b).buffer ≡ b

-- a refused question leaves every number beside the answer
pub record LeavesNumbers {A : Type 0} (answer : Given A) : Type 0 where
  pub number : number_of answer ≤ 18
  pub kept : number_of answer ≢ 0 → (value : A → ℕ) (old : ℕ) → value_or old value answer ≡ old

-- a refused writing leaves the output as well, and a done one its length; the answer goes by the room
pub record LeavesOutput (answer : ℕ → Given Bytes) : Type 0 where
  pub numbers : (room : ℕ) → LeavesNumbers (answer room)
  pub kept : (out : Bytes) → number_of (answer (length out)) ≢ 0 → output_with (answer (length out)) out ≡ out
  pub size : (out : Bytes) → length (output_with (answer (length out)) out) ≡ length out

-- the same of three outputs at once, for each of them
abbrev pub OneTagLeft : (Tags → Option Bytes) → Given Tags → Bytes → Type 0
OneTagLeft value answer out =
    (number_of answer ≢ 0 → output_with_tag value answer out ≡ out) × (length (output_with_tag value answer out) ≡ length out)

pub record LeavesTags (answer : ℕ → ℕ → ℕ → Given Tags) : Type 0 where
  pub numbers : (n s t : ℕ) → LeavesNumbers (answer n s t)
  pub name : (n s t : Bytes) → OneTagLeft (λ v. v.name) (answer (length n) (length s) (length t)) n
  pub subgraph : (n s t : Bytes) → OneTagLeft (λ v. v.subgraph) (answer (length n) (length s) (length t)) s
  pub translation : (n s t : Bytes) → OneTagLeft (λ v. v.translation) (answer (length n) (length s) (length t)) t

-- the same of a path question
pub record LeavesAnswer (answer : ℕ → Answer) : Type 0 where
  pub number : (room : ℕ) → answer_number (answer room) ≤ 18
  pub answer_kept : (room old : ℕ) → answer_number (answer room) ≢ 0 → answer_value old (answer room) ≡ old
  pub kept : (out : Bytes) → answer_number (answer (length out)) ≢ 0 → output_after (answer (length out)) out ≡ out
  pub size : (out : Bytes) → length (output_after (answer (length out)) out) ≡ length out

-- every entry on records that can refuse, as its contract has it: what it may write are the buffers and numbers named here, and no others.
-- The strict reading refuses nothing
pub record RecordsDemand1 : Type 0 where
  pub from_header_lines_lem : (t : Bytes) → LeavesEmpty λ b. record { number = (refusal_into (from_header_lines t) b).number; buffer = (read_into t b).buffer }
  pub from_tags_lem : (n s t : Option Bytes) → LeavesEmpty λ b. record { number = (refusal_into (from_tags n s t) b).number; buffer = (read_tags_into n s t b).buffer }
  pub new : (n : Bytes) → LeavesEmpty (new_record n)
  pub add_subgraph_lem : (from to : Bytes) → LeavesRecord (add_subgraph from to)
  pub add_translation_lem : (from to : Bytes) → LeavesRecord (add_translation from to)
  pub make_subgraph_of_lem : (parent : Bytes) → LeavesRecord λ b. make_subgraph_of b parent
  pub add_translation_to_lem : (parent : Bytes) → LeavesRecord λ b. add_translation_to b parent
  pub add_relationships_lem : (other : Bytes) → LeavesRecord λ b. add_relationships b other
  pub counts : (b : Bytes) → LeavesNumbers (counts_in b)
  pub name : (b : Bytes) → LeavesNumbers (name_in b)
  pub name_at : (b : Bytes) (i : ℕ) → LeavesNumbers (name_at_in b i)
  pub pair_at : (k : Kind) (b : Bytes) (i : ℕ) → LeavesNumbers (pair_at_in k b i)
  pub is_same : (b c : Bytes) → LeavesNumbers (is_same_in b c)
  pub is_subgraph_of : (b c : Bytes) → LeavesAnswer (ask_subgraph b c)
  pub translates_to : (b c : Bytes) → LeavesAnswer (ask_full b c)
  pub to_gfa : (b : Bytes) → LeavesOutput (gfa_written b)
  pub to_gaf : (b : Bytes) → LeavesOutput (gaf_written b)
  pub error_message_lem : (number line : ℕ) (part : Bytes) → LeavesOutput (message_written number line part)
  pub describe_relationship_lem : (b c self_desc other_desc : Bytes) → LeavesOutput (relationship_written b c self_desc other_desc)
  pub set_tags : (b : Bytes) → LeavesTags (tags_written b)

-- ------------------------------------------------------------------ paths (demand 3)

-- the relations that a question goes by
abbrev pub Relation : Type 1
Relation = Kind → Bytes → Bytes → Type 0

-- a pair of either record, by its kind; a subgraph question goes by subgraph pairs alone
abbrev pub by_subgraph : GraphName → GraphName → Relation
by_subgraph g h Subgraph a n = Memᴰ (record { from = a; to = n }) g.subgraph ⊎ Memᴰ (record { from = a; to = n }) h.subgraph
by_subgraph g h Translation a n = ⊥

abbrev pub by_either : GraphName → GraphName → Relation
by_either g h Subgraph a n = Memᴰ (record { from = a; to = n }) g.subgraph ⊎ Memᴰ (record { from = a; to = n }) h.subgraph
by_either g h Translation a n = Memᴰ (record { from = a; to = n }) g.translation ⊎ Memᴰ (record { from = a; to = n }) h.translation

-- the steps lead from a to b
unfoldable pub IsPath : Relation → Bytes → List Step → Bytes → Type 0
IsPath R a [] b = a ≡ b
IsPath R a (s ∷ ss) b = R s.kind a s.next × IsPath R s.next ss b

-- the order of docs/FORMAT.md: a subgraph step before a translation step, then the smaller next name; the first step that differs counts
abbrev pub KindBefore : Kind → Kind → Type 0 → Type 0
KindBefore Subgraph Subgraph same = same
KindBefore Subgraph Translation same = Unit {0}
KindBefore Translation Subgraph same = ⊥
KindBefore Translation Translation same = same

abbrev pub StepBefore : Step → Step → Type 0
StepBefore s t = KindBefore s.kind t.kind (compare_bytes s.next t.next ≡ Less)

unfoldable pub Before : List Step → List Step → Type 0
Before [] ts = ⊥
Before (s ∷ ss) [] = ⊥
Before (s ∷ ss) (t ∷ ts) = StepBefore s t ⊎ ((s ≡ t) × Before ss ts)

-- ss is a path, and every other has more steps, or as many and comes later
pub record Best (R : Relation) (a : Bytes) (ss : List Step) (b : Bytes) : Type 0 where
  pub path : IsPath R a ss b
  pub first : (ts : List Step) → IsPath R a ts b → (ts ≡ ss) ⊎ ((length ss < length ts) ⊎ ((length ss ≡ length ts) × Before ss ts))

abbrev pub Reachable : Relation → Option Bytes → Bytes → Type 0
Reachable R None n = ⊥
Reachable R (Some a) n = (ss : List Step) × IsPath R a ss n

-- the right answer: yes, with the bytes of the best path, where both graphs are named, there is a path and its bytes fit the room; 17
-- where they do not fit; no where there is no path; and no other refusal
abbrev pub RightBetween : Relation → Bytes → Bytes → ℕ → Answer → Type 0
RightBetween R a b room (Err e) = (e ≡ OutputShort) × ((ss : List Step) × Best R a ss b × (room < length (path_bytes a ss)))
RightBetween R a b room (Ok None) = (ss : List Step) → IsPath R a ss b → ⊥
RightBetween R a b room (Ok (Some bytes)) = (ss : List Step) × Best R a ss b × (bytes ≡ path_bytes a ss) × (length bytes ≤ room)

abbrev pub Right : Relation → Option Bytes → Option Bytes → ℕ → Answer → Type 0
Right R None b room r = r ≡ (Ok None)
Right R (Some a) None room r = r ≡ (Ok None)
Right R (Some a) (Some b) room r = RightBetween R a b room r

-- the bytes of the best path, where there is one, fit the room
abbrev pub HasRoom : Relation → Option Bytes → Option Bytes → ℕ → Type 0
HasRoom R None b room = Unit {0}
HasRoom R (Some a) None room = Unit {0}
HasRoom R (Some a) (Some b) room = (ss : List Step) → Best R a ss b → length (path_bytes a ss) ≤ room

-- one question, in its two parts: what is answered, and that nothing but the reachable relations counts
module _ (ask : Bytes → Bytes → ℕ → Answer) (by : GraphName → GraphName → Relation) where
  abbrev pub AnswersRight : Type 0
  AnswersRight =
      (b c : Bytes) (g h : GraphName) (room : ℕ) → decode b ≡ Some g → decode c ≡ Some h
      → Right (by g h) g.name h.name room (ask b c room)

  abbrev pub Local : Type 0
  Local =
      (b c b' c' : Bytes) (g h g' h' : GraphName) (room room' : ℕ)
      → decode b ≡ Some g → decode c ≡ Some h → decode b' ≡ Some g' → decode c' ≡ Some h'
      → g.name ≡ g'.name → h.name ≡ h'.name
      → ((n : Bytes) → Reachable (by g h) g.name n → (k : Kind) (m : Bytes) → by g h k n m ↔ by g' h' k n m)
      → HasRoom (by g h) g.name h.name room → HasRoom (by g' h') g'.name h'.name room'
      → ask b c room ≡ ask b' c' room'

pub record Demand3 : Type 0 where
  pub subgraph_right : AnswersRight ask_subgraph by_subgraph
  pub subgraph_local : Local ask_subgraph by_subgraph
  pub full_right : AnswersRight ask_full by_either
  pub full_local : Local ask_full by_either

-- ------------------------------------------------------------------ the strict reading

-- a typed field: two letters, a colon, a type, a colon, and a value that the specification's expression for the type matches
pub record TypedField (f : Bytes) : Type 0 where
  pub first : ℕ
  pub second : ℕ
  pub type : ℕ
  pub value : Bytes
  pub parts : f ≡ first ∷ second ∷ 58 ∷ type ∷ 58 ∷ value
  pub letters : (letter first ≡ true) × (letter second ≡ true)
  pub matched : Matches (value_of type) value

-- field i of a line is as it should be: the first is `H`, every other a typed field with a tag that none between the two has
abbrev pub FieldFine : List Bytes → ℕ → Type 0
FieldFine fs zero = get_or fs 0 [] ≡ text "H"
FieldFine fs (suc i) = TypedField (get_or fs (suc i) []) × ((j : ℕ) → j < i → take 2 (get_or fs (suc j) []) ≢ take 2 (get_or fs (suc i) []))

-- fine where every field is; else the first that is not
abbrev pub StrictOf : List Bytes → Result Unit ℕ → Type 0
StrictOf fs (Ok tt) = (i : ℕ) → i < length fs → FieldFine fs i
StrictOf fs (Err n) = (n < length fs) × (FieldFine fs n → ⊥) × ((i : ℕ) → i < n → FieldFine fs i)

abbrev pub StrictRight : Type 0
StrictRight = (line : Bytes) → StrictOf (split 9 line) (strict line)
