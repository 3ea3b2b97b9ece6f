-- Tags exchanged in a block: bytes in the place of some entries, and of as many keys and values.
use Rattle.std.specs.Prelude.{◌≡◌, true, List, ◌++◌, ℕ, ◌+◌, ◌-◌, ◌*◌, ◌/◌, ◌≤◌, length, take, drop, Option, Some, None}
use Rattle.model.specs.declared.holdings.Part.{Part}
use Rattle.model.specs.Bytes.{Bytes}
use Rattle.model.specs.Numbers.{le32}
use Rattle.model.specs.Opening.{is_some}
use Rattle.model.specs.TagList.{Tag, tag_entry_length, tags_length, tag_entries, tag_bodies, tag_contents, keys_after, shown_tags, decode_tags}
use Rattle.tag_list.specs.declared.list.Found.{Found}
use Rattle.tag_edits.specs.declared.exchange.Gap.{Gap}

-- one tag, where its value is found, or none
abbrev pub held_of : Option Part → ℕ
held_of None = 0
held_of (Some v) = 1

-- the bytes of its key and value
abbrev pub size_of : Option Part → ℕ → ℕ
size_of None key_size = 0
size_of (Some v) key_size = key_size + v.size

-- what stands where a key was found
abbrev pub gap_of : Found → ℕ → Gap
gap_of f key_size = record { place = f.place; start = f.start; held = held_of f.value; size = size_of f.value key_size }

-- how many tags there are then
abbrev pub count_then : ℕ → Bytes → List Tag → ℕ
count_then held entry ts = length ts - held + length entry / tag_entry_length

-- the contents of ts with `entry` in the place of the entries in the gap, and t in the place of their keys and values
unfoldable pub exchanged : Gap → Bytes → Bytes → List Tag → Bytes
exchanged g entry t ts =
    le32 (count_then g.held entry ts)
    ++ ((tag_entries (take g.place ts) ++ (entry ++ tag_entries (drop (g.place + g.held) ts)))
    ++ (tag_bodies (take g.place ts) ++ (t ++ tag_bodies (drop (g.place + g.held) ts))))

-- the tags in the gap stand in the list b, and there is room for so many bytes in the place of their entries and of their keys and values
pub record Exchange (b : Bytes) (g : Gap) (entry new : ℕ) : Type 0 where
  pub listed : is_some (decode_tags b) ≡ true
  pub place : g.place + g.held ≤ length (shown_tags b)
  pub begins : g.start ≡ keys_after (length (shown_tags b)) + length (tag_bodies (take g.place (shown_tags b)))
  pub size : g.size ≡ length (tag_bodies (take g.held (drop g.place (shown_tags b))))
  pub room : length (tag_contents (shown_tags b)) + new ≤ tags_length + g.size
  pub entry_room : length (tag_contents (shown_tags b)) + new + entry ≤ tags_length + g.size + tag_entry_length * g.held
