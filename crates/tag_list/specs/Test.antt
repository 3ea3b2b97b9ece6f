-- The test of a block, tag by tag, in the order in which it goes. That the whole says what `decode_tags` says is a law.
use Rattle.std.specs.Prelude.{Bool, true, ◌&&◌, List, [], ◌∷◌, ℕ, length, drop, leb, eqb}
use Rattle.std.specs.Ordering.{is_lt}
use Rattle.model.specs.Bytes.{Bytes, compare_bytes}
use Rattle.model.specs.Numbers.{number32}
use Rattle.model.specs.TagList.{max_tags, max_key, max_value, stored_key, tags_length, keys_after}
use Rattle.model.specs.declared.holdings.TagParts.{TagParts}
use Rattle.text.specs.Blocks.{all_zero}
use Rattle.tag_list.specs.Parts.{key_in, parts_end}
use Rattle.tag_list.specs.Tags.{parts_from}

-- a tag is as it should be stored
unfoldable pub tag_ok : Bytes → TagParts → Bool
tag_ok b t = leb t.key.size max_key && (leb t.value.size max_value && stored_key (key_in b t))

-- its key comes before that of another
abbrev pub before : Bytes → TagParts → TagParts → Bool
before b t u = is_lt (compare_bytes (key_in b t) (key_in b u))

-- before that of the next, if there is one
unfoldable pub before_next : Bytes → TagParts → List TagParts → Bool
before_next b t [] = true
before_next b t (u ∷ us) = before b t u

-- tags that stand from byte q on are as they should be stored, in their order, and nothing but zeros follows
unfoldable pub tags_ok : Bytes → ℕ → List TagParts → Bool
tags_ok b q [] = all_zero (drop q b)
tags_ok b q (t ∷ ts) = tag_ok b t && (before_next b t ts && tags_ok b (parts_end t) ts)

unfoldable pub is_tag_block : Bytes → Bool
is_tag_block b =
    let n = number32 b 0 in eqb (length b) tags_length && (leb n max_tags && tags_ok b (keys_after n) (parts_from b 0 (keys_after n) n))
