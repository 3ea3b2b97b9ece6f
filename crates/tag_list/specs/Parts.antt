-- Where a tag stands by its entry and the place of its key, whatever a block holds.
use Rattle.std.specs.Prelude.{ℕ, ◌+◌, take, drop}
use Rattle.model.specs.Bytes.{Bytes}
use Rattle.model.specs.Numbers.{number32}
use Rattle.model.specs.declared.holdings.TagParts.{TagParts}

-- the lengths of the key and of the value whose entry stands at p
abbrev pub key_size_of : Bytes → ℕ → ℕ
key_size_of b p = number32 b p

abbrev pub value_size_of : Bytes → ℕ → ℕ
value_size_of b p = number32 b (p + 4)

-- the parts of the tag whose entry stands at p, and whose key at q
abbrev pub parts_read : Bytes → ℕ → ℕ → TagParts
parts_read b p q = record {
  key = record { start = q; size = key_size_of b p };
  value = record { start = q + key_size_of b p; size = value_size_of b p };
}

-- the key that stands there
abbrev pub key_in : Bytes → TagParts → Bytes
key_in b t = take t.key.size (drop t.key.start b)

-- where a tag ends
abbrev pub parts_end : TagParts → ℕ
parts_end t = t.value.start + t.value.size
