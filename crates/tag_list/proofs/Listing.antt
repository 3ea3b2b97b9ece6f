-- The tags of a block read one by one: none is left, or the first and those behind it; that they follow each other; and those of a tag list.
use mathlib.Core.Path.{◌≡◌, refl, ap}
use mathlib.Core.List.{List, [], ◌∷◌}
use Prim.Native.Nat.{ℕ, zero, suc, ◌+◌, ◌-◌, ◌^◌, ◌<◌}
use native.Mathlib.Omega.{arith}
use lib.ListN.{length, get_or}
use Rattle.model.specs.Bytes.{Bytes}
use Rattle.model.specs.TagList.{Tag, keys_after}
use Rattle.tag_list.specs.Parts.{parts_read, parts_end}
use Rattle.tag_list.specs.Tags.{parts_from, parts_left, Follow, all_parts}
use Rattle.tag_list.specs.declared.tags.TagsIn.{TagsIn}
use Rattle.tag_list.proofs.Standing.{Stands, stands_first}

pub length_parts : (b : Bytes) (i q n : ℕ) → length (parts_from b i q n) ≡ n
unfolding parts_from
length_parts b i q zero = refl
length_parts b i q (suc n) = ap suc (length_parts b (i + 1) (parts_end (parts_read b (keys_after i) q)) n)

pub few_left : (t : TagsIn) → length (parts_left t) < 2 ^ 32
few_left t = omega (arith, length_parts t.block.now t.place t.start t.count, t.near)

module _ (b : Bytes) (i q count : ℕ) where
  pub parts_none : count ≡ 0 → parts_from b i q count ≡ []
  unfolding parts_from
  parts_none z = rw z

  pub parts_first : (count ≡ 0 → ⊥) → parts_from b i q count ≡ parts_read b (keys_after i) q ∷ parts_from b (i + 1) (parts_end (parts_read b (keys_after i) q)) (count - 1)
  unfolding parts_from
  parts_first n = go count n
    where
      go : (k : ℕ) → (k ≡ 0 → ⊥) → parts_from b i q k ≡ parts_read b (keys_after i) q ∷ parts_from b (i + 1) (parts_end (parts_read b (keys_after i) q)) (k - 1)
      go zero n = absurd (n refl)
      go (suc k) n = let d : suc k - 1 ≡ k = omega arith in rw d

pub ruleset read = (parts_none, parts_first)

-- the parts of tags that stand in a block
pub parts_stand : (b : Bytes) (i q : ℕ) (ts : List Tag) → Stands b (keys_after i) q ts → parts_from b i q (length ts) ≡ all_parts q ts
unfolding parts_from all_parts
parts_stand b i q [] s = refl
parts_stand b i q (t ∷ ts) s =
    let f = stands_first s in
    let p : keys_after i + 8 ≡ keys_after (i + 1) = omega arith in
    rw (f.key_size, f.value_size, parts_stand b (i + 1) (q + length t.key + length t.value) ts (rw p at f.next))

-- whatever a block holds, they follow each other
pub follow_parts : (b : Bytes) → ((i : ℕ) → get_or b i 0 < 256) → (i q n : ℕ) → Follow q (parts_from b i q n)
unfolding parts_from Follow
follow_parts b a i q zero = tt
follow_parts b a i q (suc n) =
    let p = keys_after i in
    (refl, refl, omega (arith, a p, a (p + 1), a (p + 2), a (p + 3), a (p + 4), a (p + 4 + 1), a (p + 4 + 2), a (p + 4 + 3)), follow_parts b a (i + 1) (parts_end (parts_read b p q)) n)
