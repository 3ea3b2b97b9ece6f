-- The examples of docs/FORMAT.md marked T, as one list, with a few of layouts, strict lines and descriptions beside them, and the theorem
-- that all of the list holds of the definitions.
use Rattle.std.specs.Prelude.{Result, ◌≡◌, refl, Bool, true, false, List, [], ◌∷◌, ◌++◌, ℕ, zero, suc, ◌-◌, length, replicate, Option, Some, None, Ok, Err}
use Prim.Native.String.{String}
use Rattle.model.specs.declared.fault.Fault.TheVariants.{OutputShort, BadKey, TagsFull}
use Rattle.model.specs.declared.Kind.TheVariants.{Subgraph, Translation}
use Rattle.model.specs.Text.{text}
use Rattle.model.specs.Bytes.{Bytes, compare_numbers, compare_bytes, same_bytes, every_byte, split}
use Rattle.model.specs.Numbers.{decimal, digits, le16s}
use Rattle.model.specs.Record.{Pair, GraphName, empty, compare_pairs, insert, insert_all, ascends, names, judge, is_valid}
use Rattle.model.specs.Layout.{record_length, place_of, entries, pair_places, contents, encode, name_at, pairs_from, shown, decode}
use Rattle.model.specs.Writing.{relations_tag, more_relations}
use Rattle.model.specs.Reading.{Reading, done, refused, typed_field, gaf_line, typed_fields, line_fields, lines_from, without_last_empty, from_header_lines, tag_relations, tag_value, name_value, from_tags}
use Rattle.model.specs.Path.{Step, leaving_by, leaving, first_of, first_path, path_from, best_path, subgraph_path, full_path, path_bytes, path_entries, path_bodies}
use Rattle.model.specs.Opening.{Given, opened}
use Rattle.model.specs.Outcome.{Answer, ask_subgraph}
use Rattle.model.specs.TagList.{Tag, tag, look_up, set_tag, remove_tag, set_graph_name, lower, fine_key, stored_key, tag_entries, tag_bodies, tag_contents}
use Rattle.model.specs.TagOutcome.{ready_key, judged_tags}
use Rattle.model.specs.Strict.{strict, strict_fields, fine_field, matches, after, nullable, value_of}
use Rattle.model.specs.Describe.{describe_relationship, steps_from, after_last_empty, step_lines, graph_lines}

abbrev p : String → String → Pair
p a b = record { from = text a; to = text b }

abbrev sub : String → Step
sub n = record { kind = Subgraph; next = text n }

abbrev tra : String → Step
tra n = record { kind = Translation; next = text n }

abbrev named : Option Bytes → List Pair → List Pair → GraphName
named n s t = record { name = n; subgraph = s; translation = t }

abbrev bare : String → GraphName
bare n = named (Some (text n)) [] []

-- a refusal: number, line, the quoted part's start and size, and the offset
abbrev fault : ℕ → ℕ → ℕ → ℕ → ℕ → Reading
fault n l s k o = refused (record { number = n; line = l; start = s; size = k; offset = o })

-- a name that is a byte too long
abbrev long : Bytes
long = replicate 257 97

-- a buffer of numbers, then text, then zeros
abbrev buffer : List ℕ → String → Bytes
buffer ns t = le16s ns ++ (text t ++ replicate (record_length - length (le16s ns ++ text t)) 0)

abbrev t : String → String → Tag
t k v = tag (text k) (text v)

-- so many tags, each with a key of one byte, the first of which is `first`
abbrev many : ℕ → ℕ → List Tag
many zero first = []
many (suc n) first = tag (first ∷ []) [] ∷ many n (suc first)

-- an input, and what the definitions should give for it
pub data Example : Type 0 where
  header : Bytes → Reading → Example
  tags : Option Bytes → Option Bytes → Option Bytes → Reading → Example
  tag_of : List Pair → String → Example
  path : GraphName → GraphName → Option (List Step) → Example
  full : GraphName → GraphName → Option (List Step) → Example
  roomy : GraphName → GraphName → ℕ → Answer → Example
  layout : List ℕ → String → Option GraphName → Example
  line : String → Result Unit ℕ → Example
  description : GraphName → GraphName → String → String → String → Example
  key : Bytes → Given Bytes → Example
  stored : Bytes → Bool → Example
  tag_set : Bytes → String → List Tag → List Tag → Example
  tag_removed : String → List Tag → List Tag → Example
  tag_found : String → List Tag → Option Bytes → Example
  three_tags : GraphName → List Tag → List Tag → Example
  tags_judged : List Tag → Given (List Tag) → Example
  tag_block : List Tag → Bytes → Example

abbrev pub Holds : Example → Type 0
Holds (header t r) = from_header_lines t ≡ r
Holds (tags n s t r) = from_tags n s t ≡ r
Holds (tag_of ps t) = relations_tag ps ≡ Some (text t)
Holds (path g h r) = subgraph_path g h ≡ r
Holds (full g h r) = full_path g h ≡ r
Holds (roomy g h room r) = ask_subgraph (encode g) (encode h) room ≡ r
Holds (layout ns t g) = decode (buffer ns t) ≡ g
Holds (line t r) = strict (text t) ≡ r
Holds (description g h d e t) = describe_relationship g h (text d) (text e) ≡ text t
Holds (key k r) = ready_key k ≡ r
Holds (stored k r) = stored_key k ≡ r
Holds (tag_set k v ts us) = set_tag k (text v) ts ≡ us
Holds (tag_removed k ts us) = remove_tag (text k) ts ≡ us
Holds (tag_found k ts r) = look_up (text k) ts ≡ r
Holds (three_tags g ts us) = set_graph_name g ts ≡ us
Holds (tags_judged ts r) = judged_tags true ts ≡ r
Holds (tag_block ts b) = tag_contents ts ≡ b

abbrev pub All : List Example → Type 0
All [] = Unit {0}
All (e ∷ es) = Holds e × All es

-- the examples of docs/FORMAT.md marked T with its example 15, and beside them questions with and without room, a few layouts, and strict
-- lines, the first of which is the specification's own
abbrev pub examples : List Example
examples =
    -- examples 1 to 6
    header (text "H\tNM:Z:") (done (named (Some []) [] []))
    ∷ header (text "@RN\t") (fault 6 1 0 4 0)
    ∷ header (text "@RN") (fault 1 1 0 0 0)
    ∷ header (text "H\t") (fault 3 1 2 0 2)
    ∷ header (text "H\tSG:i:7") (done empty)
    ∷ header (text "H\tSG:Z:a,b,c") (fault 4 1 2 10 2)
    -- 7 to 9
    ∷ tags None (Some (text "")) None (fault 9 0 0 0 0)
    ∷ tags None (Some (text "a,b;a,b")) None (done (named None (p "a" "b" ∷ []) []))
    ∷ header (text "@SG\ta,b\tc") (done (named None (p "a,b" "c" ∷ []) []))
    ∷ tag_of (p "a,b" "c" ∷ []) "a,b,c"
    ∷ tags None (Some (text "a,b,c")) None (fault 9 0 0 5 0)
    -- 10 to 13
    ∷ path (bare "A") (bare "A") (Some [])
    ∷ full (bare "A") (bare "A") (Some [])
    ∷ path empty empty None
    ∷ full empty empty None
    ∷ path (named (Some (text "A")) (p "A" "K" ∷ p "A" "M" ∷ p "K" "Z" ∷ p "M" "Z" ∷ []) []) (bare "Z") (Some (sub "K" ∷ sub "Z" ∷ []))
    ∷ full (named (Some (text "A")) (p "A" "C" ∷ p "B" "Z" ∷ []) (p "A" "B" ∷ p "C" "Z" ∷ [])) (bare "Z") (Some (sub "C" ∷ tra "Z" ∷ []))
    -- 10 with as much room as the path's bytes need, and with a byte less
    ∷ roomy (bare "A") (bare "A") 7 (Ok (Some (1 ∷ 0 ∷ 1 ∷ 0 ∷ 2 ∷ 0 ∷ 65 ∷ [])))
    ∷ roomy (bare "A") (bare "A") 6 (Err OutputShort)
    -- 17: where a refusal is, of header lines and of tags
    ∷ header (text "@RN\ta\nH") (fault 1 2 0 0 6)
    ∷ header (text "@RN\ta\nG\tb") (fault 2 2 6 1 6)
    ∷ header (text "H\tVN:Z:1\tx") (fault 3 1 9 1 9)
    ∷ header (text "@RN\ta\n@SG\tx") (fault 7 2 6 5 6)
    ∷ header (text "H\tNM:Z:a\tSG:Z:b," ++ long) (fault 11 1 0 0 9)
    ∷ header (text "@RN\ta\n@SG\tb\t" ++ long) (fault 11 2 0 0 10)
    ∷ tags None (Some (text "a,b;c")) None (fault 9 0 4 1 4)
    ∷ tags None (Some (text "a,b")) (Some (text "a,b;c,d;e")) (fault 10 0 8 1 8)
    ∷ tags None (Some (text "a,b;c," ++ long)) None (fault 11 0 0 0 4)
    ∷ tags (Some long) (Some (text "c")) None (fault 11 0 0 0 0)
    -- a whole record; its pairs exchanged; a name that is not used; a byte after the last body; all zeros
    ∷ layout (2 ∷ 2 ∷ 2 ∷ 0 ∷ 0 ∷ 1 ∷ 1 ∷ 1 ∷ 0 ∷ 1 ∷ 1 ∷ 0 ∷ []) "ab" (Some (named (Some (text "b")) (p "a" "b" ∷ p "b" "a" ∷ []) []))
    ∷ layout (2 ∷ 2 ∷ 2 ∷ 0 ∷ 0 ∷ 1 ∷ 1 ∷ 1 ∷ 1 ∷ 0 ∷ 0 ∷ 1 ∷ []) "ab" None
    ∷ layout (2 ∷ 2 ∷ 0 ∷ 0 ∷ 0 ∷ 1 ∷ 1 ∷ 1 ∷ []) "ab" None
    ∷ layout (1 ∷ 1 ∷ 0 ∷ 0 ∷ 0 ∷ 1 ∷ []) "ab" None
    ∷ layout [] "" (Some empty)
    -- strict lines
    ∷ line "H\tVN:Z:1.0" (Ok tt)
    ∷ line "H" (Ok tt)
    ∷ line "H\tab:f:-1.5e+3\tcd:B:c,1,-2,+.5" (Ok tt)
    ∷ line "H\tab:f:1.\tcd:i:1" (Err 1)
    ∷ line "H\tab:i:1\tab:i:2" (Err 2)
    ∷ line "S\tab:i:1" (Err 0)
    -- 15
    ∷ description (named (Some (text "A")) (p "A" "B" ∷ []) []) (bare "B") "p" "q"
    "Name 1 is for p\nGraph 1 is a subgraph of graph 2\nName 2 is for q\nWith graph names:\n1\tA\n2\tA\n"
    -- 20: keys as they come and as they are stored
    ∷ key (text "PggName") (Ok (text "pggname"))
    ∷ key (replicate 64 75) (Ok (replicate 64 107))
    ∷ key (replicate 65 107) (Err BadKey)
    ∷ key (127 ∷ []) (Ok (127 ∷ []))
    ∷ key (128 ∷ []) (Err BadKey)
    ∷ key [] (Ok [])
    ∷ stored (text "pggname") true
    ∷ stored (text "pggName") false
    -- tags set, removed and looked up; a held key at 32 tags and a new one; a record's three; the bytes of a list before its zeros
    ∷ tag_set (text "b") "2" (t "a" "1" ∷ t "c" "3" ∷ []) (t "a" "1" ∷ t "b" "2" ∷ t "c" "3" ∷ [])
    ∷ tag_set (text "c") "" (t "a" "1" ∷ t "c" "3" ∷ []) (t "a" "1" ∷ t "c" "" ∷ [])
    ∷ tag_removed "a" (t "a" "1" ∷ t "c" "3" ∷ []) (t "c" "3" ∷ [])
    ∷ tag_removed "b" (t "a" "1" ∷ t "c" "3" ∷ []) (t "a" "1" ∷ t "c" "3" ∷ [])
    ∷ tag_found "c" (t "a" "1" ∷ t "c" "3" ∷ []) (Some (text "3"))
    ∷ tag_found "b" (t "a" "1" ∷ t "c" "3" ∷ []) None
    ∷ tags_judged (set_tag (40 ∷ []) (text "v") (many 32 32)) (Ok (set_tag (40 ∷ []) (text "v") (many 32 32)))
    ∷ tags_judged (set_tag (64 ∷ []) (text "v") (many 32 32)) (Err TagsFull)
    ∷ three_tags (named (Some (text "A")) (p "A" "B" ∷ p "A" "C" ∷ []) []) (t "other" "x" ∷ t "translation" "y" ∷ [])
    (t "other" "x" ∷ t "pggname" "A" ∷ t "subgraph" "A,B;A,C" ∷ [])
    ∷ tag_block (t "a" "XY" ∷ []) (1 ∷ 0 ∷ 0 ∷ 0 ∷ 1 ∷ 0 ∷ 0 ∷ 0 ∷ 2 ∷ 0 ∷ 0 ∷ 0 ∷ text "aXY")
    ∷ []

pub examples_hold : All examples
unfolding opened from_header_lines lines_from without_last_empty line_fields typed_fields typed_field gaf_line split same_bytes compare_bytes compare_numbers judge names insert_all insert compare_pairs from_tags name_value tag_value tag_relations relations_tag more_relations subgraph_path full_path best_path path_from first_path first_of leaving leaving_by describe_relationship decimal digits steps_from after_last_empty step_lines graph_lines strict strict_fields fine_field matches after nullable value_of le16s ask_subgraph path_bytes path_entries path_bodies decode is_valid ascends shown pairs_from name_at encode contents entries pair_places place_of every_byte lower fine_key stored_key ready_key look_up set_tag remove_tag set_graph_name judged_tags tag_contents tag_entries tag_bodies
examples_hold =
    (refl, (refl, (refl, (refl, (refl, (refl, (refl, (refl, (refl, (refl, (refl, (refl, (refl, (refl, (refl, (refl, (refl, (refl, (refl, (refl, (refl, (refl, (refl, (refl, (refl, (refl, (refl, (refl, (refl, (refl, (refl, (refl, (refl, (refl, (refl, (refl, (refl, (refl, (refl, (refl, (refl, (refl, (refl, (refl, (refl, (refl, (refl, (refl, (refl, (refl, (refl, (refl, (refl, (refl, (refl, (refl, (refl, (refl, (refl, tt)))))))))))))))))))))))))))))))))))))))))))))))))))))))))))
