-- The tags of a block as the parts where their keys and values stand: what is read one by one of any block, and what tags make of it.
use Rattle.std.specs.Prelude.{◌≡◌, List, [], ◌∷◌, ℕ, zero, suc, ◌+◌, ◌^◌, ◌≤◌}
use Rattle.std.specs.Bool.{⊤}
use Rattle.model.specs.Bytes.{Bytes}
use Rattle.model.specs.TagList.{Tag, keys_after}
use Rattle.model.specs.TagOutcome.{parts_of, behind}
use Rattle.model.specs.declared.holdings.TagParts.{TagParts}
use Rattle.tag_list.specs.Parts.{parts_read, parts_end}
use Rattle.tag_list.specs.declared.tags.TagsIn.{TagsIn}

-- so many tags from place i on, the key of the first at byte q
unfoldable pub parts_from : Bytes → ℕ → ℕ → ℕ → List TagParts
parts_from b i q zero = []
parts_from b i q (suc n) = parts_read b (keys_after i) q ∷ parts_from b (i + 1) (parts_end (parts_read b (keys_after i) q)) n

abbrev pub parts_left : TagsIn → List TagParts
parts_left t = parts_from t.block.now t.place t.start t.count

-- each begins where the one before it ends, its value where its key ends, and no size is a large number
unfoldable pub Follow : ℕ → List TagParts → Type 0
Follow q [] = ⊤
Follow q (t ∷ ts) = (t.key.start ≡ q) × (t.value.start ≡ q + t.key.size) × (parts_end t ≤ q + 2 ^ 33) × Follow (parts_end t) ts

-- the parts of tags, the key of the first at byte q
unfoldable pub all_parts : ℕ → List Tag → List TagParts
all_parts q [] = []
all_parts q (t ∷ ts) = parts_of q t ∷ all_parts (behind q t) ts
