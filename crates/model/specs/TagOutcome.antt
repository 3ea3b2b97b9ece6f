-- What looking up, setting and removing give, from the block and the other arguments alone: the number of a refusal, or the values, and what
-- each buffer holds then.
use Rattle.std.specs.Prelude.{Bool, cond, ◌&&◌, List, [], ◌∷◌, ℕ, zero, suc, ◌+◌, length, leb, Option, Some, None, Ok, Err}
use Rattle.model.specs.declared.fault.Fault.TheVariants.{OutputShort, BadKey, LongValue, TagsFull, NotATagList}
use Rattle.model.specs.declared.holdings.TagParts.{TagParts}
use Rattle.model.specs.Bytes.{Bytes, same_bytes}
use Rattle.model.specs.Opening.{Given, and_then, or_refuse, is_some, opened, record_in}
use Rattle.model.specs.declared.holdings.Part.{Part}
use Rattle.model.specs.Questions.{mapped}
use Rattle.model.specs.Written.{Tags, tags_of, fits, put_value}
use Rattle.model.specs.TagList.{Tag, look_up, set_tag, remove_tag, set_graph_name, max_tags, max_value, lower, fine_key, keys_after, encode_tags, decode_tags}

-- 29 where a block is no tag list
unfoldable pub tag_list : Bytes → Given (List Tag)
tag_list b = or_refuse NotATagList (decode_tags b)

-- a key made ready for use; 19 looks at it as it comes
unfoldable pub ready_key : Bytes → Given Bytes
ready_key k = cond (fine_key k) (Ok (lower k)) (Err BadKey)

-- f of the list and of a key made ready: 29, then 19
abbrev pub with_key : {A : Type 0} → Bytes → Bytes → (List Tag → Bytes → Given A) → Given A
with_key b key f = and_then (tag_list b) λ ts. and_then (ready_key key) λ k. f ts k

-- ------------------------------------------------------------------ looking up

unfoldable pub tag_count_in : Bytes → Given ℕ
tag_count_in b = and_then (tag_list b) λ ts. Ok (length ts)

-- the parts of a tag whose key begins at `start`, and where the next begins
abbrev pub parts_of : ℕ → Tag → TagParts
parts_of start t = record {
  key = record { start = start; size = length t.key };
  value = record { start = start + length t.key; size = length t.value };
}

abbrev pub behind : ℕ → Tag → ℕ
behind start t = start + length t.key + length t.value

unfoldable pub parts_at : ℕ → List Tag → ℕ → Option TagParts
parts_at start [] i = None
parts_at start (t ∷ ts) zero = Some (parts_of start t)
parts_at start (t ∷ ts) (suc i) = parts_at (behind start t) ts i

unfoldable pub parts_with : ℕ → Bytes → List Tag → Option TagParts
parts_with start k [] = None
parts_with start k (t ∷ ts) = cond (same_bytes k t.key) (Some (parts_of start t)) (parts_with (behind start t) k ts)

-- the tag at a place, counted from 0; past the end there is none
unfoldable pub tag_at_in : Bytes → ℕ → Given (Option TagParts)
tag_at_in b i = and_then (tag_list b) λ ts. Ok (parts_at (keys_after (length ts)) ts i)

abbrev pub value_part : TagParts → Part
value_part p = p.value

-- `get`: where the value stands
unfoldable pub get_in : Bytes → Bytes → Given (Option Part)
get_in b key = with_key b key λ ts k. Ok (mapped value_part (parts_with (keys_after (length ts)) k ts))

-- the value itself
unfoldable pub value_in : Bytes → Bytes → Given (Option Bytes)
value_in b key = with_key b key λ ts k. Ok (look_up k ts)

-- `contains_key`
unfoldable pub contains_in : Bytes → Bytes → Given Bool
contains_in b key = with_key b key λ ts k. Ok (is_some (look_up k ts))

-- ------------------------------------------------------------------ changing

-- a new list judged as a whole: 20 where a new value is not short, then 21
unfoldable pub judged_tags : Bool → List Tag → Given (List Tag)
judged_tags short ts = cond short (cond (leb (length ts) max_tags) (Ok ts) (Err TagsFull)) (Err LongValue)

-- `insert`
unfoldable pub insert_in : Bytes → Bytes → Bytes → Given (List Tag)
insert_in b key value = with_key b key λ ts k. judged_tags (leb (length value) max_value) (set_tag k value ts)

-- whether each of three tags that is there is short enough
abbrev pub short_tags : Tags → Bool
short_tags v = fits v.name max_value && (fits v.subgraph max_value && fits v.translation max_value)

-- a record's three tags put in at once
unfoldable pub set_graph_name_in : Bytes → Bytes → Given (List Tag)
set_graph_name_in b buffer =
    and_then (opened (record_in buffer)) λ g. and_then (tag_list b) λ ts. judged_tags (short_tags (tags_of g)) (set_graph_name g ts)

-- what the block then holds; a refusal leaves it as it was
abbrev pub list_with : Given (List Tag) → Bytes → Bytes
list_with (Err n) b = b
list_with (Ok ts) b = encode_tags ts

-- the value that was there, and the list without it
pub record Removal : Type 0 where
  pub value : Option Bytes
  pub rest : List Tag

-- `remove`, with so much room in the output for the value: 17 where it does not fit, and then nothing is removed
unfoldable pub remove_in : Bytes → Bytes → ℕ → Given Removal
remove_in b key room =
    with_key b key λ ts k.
    cond (fits (look_up k ts) room) (Ok (record { value = look_up k ts; rest = remove_tag k ts })) (Err OutputShort)

abbrev pub rest_given : Given Removal → Given (List Tag)
rest_given r = and_then r λ v. Ok v.rest

-- what the output then holds
abbrev pub output_with_removed : Given Removal → Bytes → Bytes
output_with_removed (Err n) out = out
output_with_removed (Ok r) out = put_value r.value out
