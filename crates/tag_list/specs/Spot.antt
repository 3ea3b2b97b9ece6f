-- Where a key stands among tags, or would stand.
use Rattle.std.specs.Prelude.{List, [], ◌∷◌, ℕ, ◌+◌, length, Some, None}
use Rattle.model.specs.Bytes.{Bytes, by_order, compare_bytes}
use Rattle.model.specs.TagList.{Tag, keys_after, shown_tags}
use Rattle.model.specs.TagOutcome.{behind, parts_of}
use Rattle.tag_list.specs.declared.list.Found.{Found}

-- among tags of which the first is at place i, its key at byte q
unfoldable pub spot : Bytes → ℕ → ℕ → List Tag → Found
spot k i q [] = record { place = i; start = q; value = None }
spot k i q (t ∷ ts) =
    by_order (compare_bytes k t.key)
    (record { place = i; start = q; value = None })
    (record { place = i; start = q; value = Some (parts_of q t).value })
    (spot k (i + 1) (behind q t) ts)

-- among all tags of a list, and of a block
abbrev pub spot_among : Bytes → List Tag → Found
spot_among k ts = spot k 0 (keys_after (length ts)) ts

abbrev pub spot_in : Bytes → Bytes → Found
spot_in k b = spot_among k (shown_tags b)
