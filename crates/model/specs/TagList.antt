-- The tag list: all tags of a graph, a finite map from lowered keys to values, kept as its list ascending by key; and its block of bytes
-- (docs/FORMAT.md, "Tag lists").
use Rattle.std.specs.Prelude.{◌≡◌, refl, Bool, true, cond, not, ◌&&◌, List, [], ◌∷◌, ◌++◌, ℕ, zero, suc, ◌+◌, ◌*◌, length, take, drop, leb, Option, Some, None}
use Rattle.std.specs.declared.cmp.Ordering.{Ordering}
use Rattle.model.specs.Text.{text}
use Rattle.model.specs.Bytes.{Bytes, by_order, compare_bytes, same_bytes, every_byte, pad_to}
use Rattle.model.specs.Numbers.{le32, number32}
use Rattle.model.specs.Record.{GraphName, ascends}
use Rattle.model.specs.Written.{tags_of}
use Rattle.model.specs.Strict.{range}

-- ------------------------------------------------------------------ the map

pub record Tag : Type 0 where
  pub key : Bytes
  pub value : Bytes

abbrev pub tag : Bytes → Bytes → Tag
tag k v = record { key = k; value = v }

abbrev pub compare_tags : Tag → Tag → Ordering
compare_tags s t = compare_bytes s.key t.key

unfoldable pub look_up : Bytes → List Tag → Option Bytes
look_up k [] = None
look_up k (t ∷ ts) = cond (same_bytes k t.key) (Some t.value) (look_up k ts)

-- a held key's value is replaced
unfoldable pub set_tag : Bytes → Bytes → List Tag → List Tag
set_tag k v [] = tag k v ∷ []
set_tag k v (t ∷ ts) = by_order (compare_bytes k t.key) (tag k v ∷ t ∷ ts) (tag k v ∷ ts) (t ∷ set_tag k v ts)

unfoldable pub remove_tag : Bytes → List Tag → List Tag
remove_tag k [] = []
remove_tag k (t ∷ ts) = by_order (compare_bytes k t.key) (t ∷ ts) ts (t ∷ remove_tag k ts)

abbrev pub set_or_remove : Bytes → Option Bytes → List Tag → List Tag
set_or_remove k None ts = remove_tag k ts
set_or_remove k (Some v) ts = set_tag k v ts

-- a record's three tags at once, absent ones removed
unfoldable pub set_graph_name : GraphName → List Tag → List Tag
set_graph_name g ts =
    set_or_remove (text "translation") (tags_of g).translation
    (set_or_remove (text "subgraph") (tags_of g).subgraph
    (set_or_remove (text "pggname") (tags_of g).name ts))

-- ------------------------------------------------------------------ keys and sizes: no other definition knows these numbers

abbrev pub max_tags : ℕ
max_tags = 32

abbrev pub max_key : ℕ
max_key = 64

abbrev pub max_value : ℕ
max_value = 8192

abbrev pub capital : ℕ → Bool
capital = range 65 90

-- capitals A to Z lowered
unfoldable pub lower : Bytes → Bytes
lower [] = []
lower (x ∷ xs) = cond (capital x) (x + 32) x ∷ lower xs

abbrev pub key_byte : ℕ → Bool
key_byte x = leb x 127

-- a key as it comes: short, and no byte above 127
unfoldable pub fine_key : Bytes → Bool
fine_key k = leb (length k) max_key && every_byte key_byte k

abbrev pub stored_byte : ℕ → Bool
stored_byte x = key_byte x && not (capital x)

-- a key as it is stored: no capital either
unfoldable pub stored_key : Bytes → Bool
stored_key k = leb (length k) max_key && every_byte stored_byte k

unfoldable pub all_stored : List Tag → Bool
all_stored [] = true
all_stored (t ∷ ts) = stored_key t.key && (leb (length t.value) max_value && all_stored ts)

unfoldable pub is_tag_list : List Tag → Bool
is_tag_list ts = leb (length ts) max_tags && (ascends compare_tags ts && all_stored ts)

-- ------------------------------------------------------------------ the block

-- the count, and the lengths of a key and its value
abbrev pub tag_count_length : ℕ
tag_count_length = 4

abbrev pub tag_entry_length : ℕ
tag_entry_length = 8

-- every block has room for the most tags, each as long as can be, and no byte more
abbrev pub tags_length : ℕ
tags_length = 264452

pub tags_length_lem : tags_length ≡ tag_count_length + max_tags * (tag_entry_length + (max_key + max_value))
tags_length_lem = refl

unfoldable pub tag_entries : List Tag → Bytes
tag_entries [] = []
tag_entries (t ∷ ts) = le32 (length t.key) ++ (le32 (length t.value) ++ tag_entries ts)

unfoldable pub tag_bodies : List Tag → Bytes
tag_bodies [] = []
tag_bodies (t ∷ ts) = t.key ++ (t.value ++ tag_bodies ts)

-- the block without its trailing zeros
unfoldable pub tag_contents : List Tag → Bytes
tag_contents ts = le32 (length ts) ++ (tag_entries ts ++ tag_bodies ts)

unfoldable pub encode_tags : List Tag → Bytes
encode_tags ts = pad_to tags_length (tag_contents ts)

-- where the first of n keys stands
abbrev pub keys_after : ℕ → ℕ
keys_after n = tag_count_length + tag_entry_length * n

-- n tags read straight off, by their entries at the front of `entries` and their keys and values at the front of `bodies`
unfoldable pub tags_in : ℕ → Bytes → Bytes → List Tag
tags_in zero entries bodies = []
tags_in (suc n) entries bodies =
    tag (take (number32 entries 0) bodies) (take (number32 entries 4) (drop (number32 entries 0) bodies))
    ∷ tags_in n (drop tag_entry_length entries) (drop (number32 entries 0 + number32 entries 4) bodies)

-- what a block would mean, were it a tag list
unfoldable pub shown_tags : Bytes → List Tag
shown_tags b = tags_in (number32 b 0) (drop tag_count_length b) (drop (keys_after (number32 b 0)) b)

-- a block is a tag list exactly if what it shows is one and it is the encoding of that
unfoldable pub decode_tags : Bytes → Option (List Tag)
decode_tags b = cond (is_tag_list (shown_tags b) && same_bytes (encode_tags (shown_tags b)) b) (Some (shown_tags b)) None
