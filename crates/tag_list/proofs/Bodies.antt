-- Keys and values, and their lengths, of one list of tags behind another.
use mathlib.Core.Path.{◌≡◌, refl, ◌∙◌}
use mathlib.Core.List.{List, [], ◌∷◌, ◌++◌, append_assoc}
use Prim.Native.Nat.{◌+◌, ◌*◌}
use native.Mathlib.Omega.{arith}
use lib.ListN.{length, length-append}
use Rattle.model.specs.TagList.{Tag, tag_entry_length, tag_entries, tag_bodies}

pub tag_bodies_append : (xs ys : List Tag) → tag_bodies (xs ++ ys) ≡ tag_bodies xs ++ tag_bodies ys
unfolding tag_bodies
tag_bodies_append [] ys = refl
tag_bodies_append (x ∷ xs) ys = rw (tag_bodies_append xs ys) (simp append_assoc)

pub tag_entries_append : (xs ys : List Tag) → tag_entries (xs ++ ys) ≡ tag_entries xs ++ tag_entries ys
unfolding tag_entries
tag_entries_append [] ys = refl
tag_entries_append (x ∷ xs) ys = rw (tag_entries_append xs ys) (simp append_assoc)

-- the bytes of a first tag's key and value, and the others'
pub length_tag_bodies : (t : Tag) (ts : List Tag) → length (tag_bodies (t ∷ ts)) ≡ length t.key + (length t.value + length (tag_bodies ts))
unfolding tag_bodies
length_tag_bodies t ts = length-append t.key (t.value ++ tag_bodies ts) ∙ omega (arith, length-append t.value (tag_bodies ts))

pub length_tag_entries : (ts : List Tag) → length (tag_entries ts) ≡ tag_entry_length * length ts
unfolding tag_entries
length_tag_entries [] = refl
length_tag_entries (t ∷ ts) = omega (arith, length_tag_entries ts)
