-- The laws of tag lists, each as a type.
use Rattle.std.specs.Prelude.{◌≡◌, ◌⊎◌, ◌↔◌, ◌≢◌, true, false, cond, ℕ, ◌≤◌, ◌<◌, length, take, drop, Some, None, slice_get, Ok}
use mathlib.Core.List.{List, [], ◌∷◌, Memᴰ}
use Rattle.model.specs.Text.{text}
use Rattle.model.specs.Bytes.{Bytes, same_bytes}
use Rattle.model.specs.Record.{GraphName}
use Rattle.model.specs.Layout.{record_length, decode}
use Rattle.model.specs.Opening.{Given, and_then, number_of, value_or, opened, record_in}
use Rattle.model.specs.declared.holdings.Part.{Part}
use Rattle.model.specs.Questions.{mapped}
use Rattle.model.specs.Written.{tags_of}
use Rattle.model.specs.TagList.{Tag, tag, compare_tags, look_up, set_tag, remove_tag, set_graph_name, max_tags, max_value, lower, fine_key, stored_key, tags_length, encode_tags, decode_tags}
use Rattle.model.specs.declared.holdings.TagParts.{TagParts}
use Rattle.model.specs.TagOutcome.{Removal, tag_count_in, tag_at_in, get_in, contains_in, value_in, short_tags, insert_in, set_graph_name_in, remove_in, rest_given, list_with, output_with_removed}
use Rattle.model.specs.Statements.{Ascending, RecordsDemand1}

-- a tag list within the sizes of docs/FORMAT.md
pub record ValidTags (ts : List Tag) : Type 0 where
  pub count : length ts ≤ max_tags
  pub order : Ascending compare_tags ts
  pub keys : (t : Tag) → Memᴰ t ts → stored_key t.key ≡ true
  pub values : (t : Tag) → Memᴰ t ts → length t.value ≤ max_value

-- equal meaning is equal bytes, and every tag list has a meaning
abbrev pub TagsEncoded : Type 0
TagsEncoded = (ts : List Tag) → ValidTags ts → decode_tags (encode_tags ts) ≡ Some ts

abbrev pub TagsDecoded : Type 0
TagsDecoded = (b : Bytes) (ts : List Tag) → decode_tags b ≡ Some ts → ValidTags ts × (b ≡ encode_tags ts)

-- the laws of a finite map, on ascending lists
pub record FiniteMap : Type 0 where
  pub set_kept : (k v : Bytes) (ts : List Tag) → Ascending compare_tags ts → Ascending compare_tags (set_tag k v ts)
  pub remove_kept : (k : Bytes) (ts : List Tag) → Ascending compare_tags ts → Ascending compare_tags (remove_tag k ts)
  pub set_same : (k v : Bytes) (ts : List Tag) → Ascending compare_tags ts → look_up k (set_tag k v ts) ≡ Some v
  pub set_other : (j k v : Bytes) (ts : List Tag) → Ascending compare_tags ts → j ≢ k → look_up j (set_tag k v ts) ≡ look_up j ts
  pub remove_same : (k : Bytes) (ts : List Tag) → Ascending compare_tags ts → look_up k (remove_tag k ts) ≡ None
  pub remove_other : (j k : Bytes) (ts : List Tag) → Ascending compare_tags ts → j ≢ k → look_up j (remove_tag k ts) ≡ look_up j ts
  pub same : (ts us : List Tag) → Ascending compare_tags ts → Ascending compare_tags us → ((k : Bytes) → look_up k ts ≡ look_up k us) → ts ≡ us

-- what stands in a part of a block
abbrev pub part_in : Bytes → Part → Bytes
part_in b p = take p.size (drop p.start b)

abbrev pub tag_within : Bytes → TagParts → Tag
tag_within b p = tag (part_in b p.key) (part_in b p.value)

-- the same of blocks: where keys and values stand, which changes are accepted, what each key gives after them, and that a block is told by
-- what its keys give
pub record TagsAreMap : Type 0 where
  pub got : (b key : Bytes) → value_in b key ≡ and_then (get_in b key) λ o. Ok (mapped (part_in b) o)
  pub listed : (b : Bytes) (ts : List Tag) (i : ℕ) → decode_tags b ≡ Some ts
      → and_then (tag_at_in b i) (λ o. Ok (mapped (tag_within b) o)) ≡ Ok (slice_get ts i)
  pub accepted : (b key value : Bytes) (ts : List Tag) → decode_tags b ≡ Some ts → fine_key key ≡ true → length value ≤ max_value
      → (look_up (lower key) ts ≢ None) ⊎ (length ts < max_tags) → number_of (insert_in b key value) ≡ 0
  pub inserted : (b key value j : Bytes) → number_of (insert_in b key value) ≡ 0 → fine_key j ≡ true
      → value_in (list_with (insert_in b key value) b) j ≡ cond (same_bytes (lower j) (lower key)) (Ok (Some value)) (value_in b j)
  pub removed : (b key : Bytes) (room : ℕ) (j : Bytes) → number_of (remove_in b key room) ≡ 0 → fine_key j ≡ true
      → value_in (list_with (rest_given (remove_in b key room)) b) j ≡ cond (same_bytes (lower j) (lower key)) (Ok None) (value_in b j)
  pub three_set : (b buffer : Bytes) (g : GraphName) (j : Bytes) → number_of (set_graph_name_in b buffer) ≡ 0 → decode buffer ≡ Some g → fine_key j ≡ true
      → value_in (list_with (set_graph_name_in b buffer) b) j
      ≡ cond (same_bytes (lower j) (text "pggname")) (Ok (tags_of g).name)
      (cond (same_bytes (lower j) (text "subgraph")) (Ok (tags_of g).subgraph)
      (cond (same_bytes (lower j) (text "translation")) (Ok (tags_of g).translation) (value_in b j)))
  pub same : (b c : Bytes) (ts us : List Tag) → decode_tags b ≡ Some ts → decode_tags c ≡ Some us
      → ((j : Bytes) → fine_key j ≡ true → value_in b j ≡ value_in c j) → b ≡ c

-- ------------------------------------------------------------------ numbers and refusals (demand 1)

-- the number is one of these, and a refused question leaves every number beside the answer
pub record AnswersWith (given : List ℕ) {A : Type 0} (answer : Given A) : Type 0 where
  pub number : Memᴰ (number_of answer) given
  pub kept : number_of answer ≢ 0 → (value : A → ℕ) (old : ℕ) → value_or old value answer ≡ old

-- the same of a change: a refusal leaves the block, every change its length, and a block of the wrong size is not written
pub record ChangesWith (given : List ℕ) (answer : Bytes → Given (List Tag)) : Type 0 where
  pub numbers : (b : Bytes) → AnswersWith given (answer b)
  pub kept : (b : Bytes) → number_of (answer b) ≢ 0 → list_with (answer b) b ≡ b
  pub size : (b : Bytes) → length (list_with (answer b) b) ≡ length b
  pub wrong : (b : Bytes) → length b ≢ tags_length → number_of (answer b) ≢ 0

-- the same of a removal, which has an output too
pub record RemovesWith (given : List ℕ) (answer : Bytes → ℕ → Given Removal) : Type 0 where
  pub list : (room : ℕ) → ChangesWith given λ b. rest_given (answer b room)
  pub numbers : (b : Bytes) (room : ℕ) → AnswersWith given (answer b room)
  pub kept : (b out : Bytes) → number_of (answer b (length out)) ≢ 0 → output_with_removed (answer b (length out)) out ≡ out
  pub size : (b out : Bytes) → length (output_with_removed (answer b (length out)) out) ≡ length out

-- an entry with a key refuses, before anything else, what the question of that key's value refuses, with the same number, and gives 29 and
-- 19 for nothing else
pub record KeyNumbers (b k : Bytes) {A : Type 0} (answer : Given A) : Type 0 where
  pub refused : number_of (value_in b k) ≢ 0 → number_of answer ≡ number_of (value_in b k)
  pub list : number_of answer ≡ 29 ↔ decode_tags b ≡ None
  pub key : number_of answer ≡ 19 ↔ (decode_tags b ≢ None) × (fine_key k ≡ false)

-- `set_graph_name` first refuses the record, as every entry that reads one does: 15 for its size, 16 for its contents. Then come 29 for the
-- list, 20 for a tag of the record that is too long, and 21 for a list that is too long with the record's tags set
pub record SetNumbers (b buffer : Bytes) : Type 0 where
  pub refused : number_of (opened (record_in buffer)) ≢ 0 → number_of (set_graph_name_in b buffer) ≡ number_of (opened (record_in buffer))
  pub size : number_of (set_graph_name_in b buffer) ≡ 15 ↔ length buffer ≢ record_length
  pub contents : number_of (set_graph_name_in b buffer) ≡ 16 ↔ (length buffer ≡ record_length) × (decode buffer ≡ None)
  pub list : (g : GraphName) → opened (record_in buffer) ≡ Ok g → number_of (set_graph_name_in b buffer) ≡ 29 ↔ decode_tags b ≡ None
  pub value : (g : GraphName) (ts : List Tag) → opened (record_in buffer) ≡ Ok g → decode_tags b ≡ Some ts
      → number_of (set_graph_name_in b buffer) ≡ 20 ↔ short_tags (tags_of g) ≡ false
  pub full : (g : GraphName) (ts : List Tag) → opened (record_in buffer) ≡ Ok g → decode_tags b ≡ Some ts → short_tags (tags_of g) ≡ true
      → number_of (set_graph_name_in b buffer) ≡ 21 ↔ max_tags < length (set_graph_name g ts)

-- each number speaks of its own situation alone
pub record TagNumbers : Type 0 where
  -- the question of a key's value, to which the other entries with a key are held: 29 where the block is no tag list, then 19 where the key
  -- is not fine
  pub list : (b key : Bytes) → number_of (value_in b key) ≡ 29 ↔ decode_tags b ≡ None
  pub key : (b key : Bytes) → number_of (value_in b key) ≡ 19 ↔ (decode_tags b ≢ None) × (fine_key key ≡ false)
  -- the entries without a key: 29 where the block is no tag list, at every place
  pub counts : (b : Bytes) → number_of (tag_count_in b) ≡ 29 ↔ decode_tags b ≡ None
  pub at : (b : Bytes) (i : ℕ) → number_of (tag_at_in b i) ≡ 29 ↔ decode_tags b ≡ None
  -- `get` and `contains_key` refuse what that question refuses, and nothing else
  pub get : (b key : Bytes) → number_of (get_in b key) ≡ number_of (value_in b key)
  pub contains_key : (b key : Bytes) → number_of (contains_in b key) ≡ number_of (value_in b key)
  -- `insert` and `remove` refuse that first, whatever the value or the room
  pub insert : (b key value : Bytes) → KeyNumbers b key (insert_in b key value)
  pub remove : (b key : Bytes) (room : ℕ) → KeyNumbers b key (remove_in b key room)
  -- then `insert` has 20 for a value that is too long, and then 21 for a new key in a full list
  pub value : (b key value : Bytes) → number_of (value_in b key) ≡ 0 → number_of (insert_in b key value) ≡ 20 ↔ max_value < length value
  pub full : (b key value : Bytes) (ts : List Tag) → decode_tags b ≡ Some ts → fine_key key ≡ true → length value ≤ max_value
      → number_of (insert_in b key value) ≡ 21 ↔ (look_up (lower key) ts ≡ None) × (length ts ≡ max_tags)
  -- and `remove` 17 for a value that has no room in the output
  pub output : (b key : Bytes) (room : ℕ) → number_of (value_in b key) ≡ 0
      → number_of (remove_in b key room) ≡ 17 ↔ ((v : Bytes) × (value_in b key ≡ Ok (Some v)) × (room < length v))
  -- the record, the list, the record's tags, the list with them
  pub set_graph_name_lem : (b buffer : Bytes) → SetNumbers b buffer

-- every entry on tag lists, as its contract has it
pub record TagsDemand1 : Type 0 where
  pub counts : (b : Bytes) → AnswersWith (0 ∷ 29 ∷ []) (tag_count_in b)
  pub at : (b : Bytes) (i : ℕ) → AnswersWith (0 ∷ 29 ∷ []) (tag_at_in b i)
  pub get : (b key : Bytes) → AnswersWith (0 ∷ 29 ∷ 19 ∷ []) (get_in b key)
  pub contains_key : (b key : Bytes) → AnswersWith (0 ∷ 29 ∷ 19 ∷ []) (contains_in b key)
  pub insert : (key value : Bytes) → ChangesWith (0 ∷ 29 ∷ 19 ∷ 20 ∷ 21 ∷ []) λ b. insert_in b key value
  pub remove : (key : Bytes) → RemovesWith (0 ∷ 29 ∷ 19 ∷ 17 ∷ []) λ b room. remove_in b key room
  pub set_graph_name_lem : (buffer : Bytes) → ChangesWith (0 ∷ 15 ∷ 16 ∷ 29 ∷ 20 ∷ 21 ∷ []) λ b. set_graph_name_in b buffer
  pub situations : TagNumbers

-- every entry that can refuse
pub record Demand1 : Type 0 where
  pub records : RecordsDemand1
  pub tags : TagsDemand1
