-- An encoding of tags passes the test of a block, tag by tag.
use mathlib.Core.Path.{◌≡◌, refl}
use mathlib.Core.Bool.{true}
use mathlib.Core.List.{List, [], ◌∷◌}
use Prim.Native.Nat.{ℕ, ◌+◌}
use native.Mathlib.Omega.{arith}
use native.Mathlib.Nat.{add-zero}
use lib.ListN.{length, drop}
use borrow.Author.Tests.{le-leb}
use Rattle.model.specs.Bytes.{Bytes}
use Rattle.model.specs.Statements.{Ascending}
use Rattle.model.specs.TagList.{Tag, compare_tags, max_tags, max_key, max_value, tag_count_length, tags_length, tag_bodies, tag_contents, encode_tags, keys_after}
use Rattle.model.specs.TagOutcome.{parts_of, behind}
use Rattle.model.specs.TagStatements.{ValidTags}
use Rattle.text.specs.Blocks.{all_zero}
use Rattle.text.proofs.Ascending.{ascending_tail}
use Rattle.block.proofs.Spliced.{pad_zeros}
use Rattle.tag_list.specs.Tags.{all_parts}
use Rattle.tag_list.specs.Test.{before_next, tag_ok, tags_ok, is_tag_block}
use Rattle.tag_list.proofs.Bodies.{length_tag_bodies}
use Rattle.tag_list.proofs.Listing.{parts_stand}
use Rattle.tag_list.proofs.Standing.{Stands, First, stands_first, encoded_stands, count_encoded, length_encoded, length_contents}

module _ (b : Bytes) where
  before_next_lem : (p q : ℕ) (t : Tag) (ts : List Tag) → First b p q t ts → Ascending compare_tags (t ∷ ts)
      → before_next b (parts_of q t) (all_parts (behind q t) ts) ≡ true
  unfolding before_next all_parts Ascending
  before_next_lem p q t [] f asc = refl
  before_next_lem p q t (u ∷ us) f asc =
      let g = stands_first f.next in
      rw (f.key, g.key, asc.0)

  first_ok : (p q : ℕ) (t : Tag) (ts : List Tag) → First b p q t ts → tag_ok b (parts_of q t) ≡ true
  unfolding tag_ok
  first_ok p q t ts f = rw (f.key, le-leb (length t.key) max_key f.key_short, le-leb (length t.value) max_value f.value_short) f.stored_key_lem

  none_ok : (q : ℕ) → all_zero (drop (q + length (tag_bodies [])) b) ≡ true → tags_ok b q (all_parts q []) ≡ true
  unfolding tags_ok tag_bodies all_parts
  none_ok q z = rw add-zero at z

  more_ok : (p q : ℕ) (t : Tag) (ts : List Tag) → First b p q t ts → Ascending compare_tags (t ∷ ts)
      → tags_ok b (behind q t) (all_parts (behind q t) ts) ≡ true → tags_ok b q (all_parts q (t ∷ ts)) ≡ true
  unfolding tags_ok all_parts
  more_ok p q t ts f asc rest = rw (first_ok p q t ts f, before_next_lem p q t ts f asc) rest

  pub stands_ok : (ts : List Tag) (p q : ℕ) → Stands b p q ts → Ascending compare_tags ts → all_zero (drop (q + length (tag_bodies ts)) b) ≡ true
      → tags_ok b q (all_parts q ts) ≡ true
  stands_ok [] p q s asc z = none_ok q z
  stands_ok (t ∷ ts) p q s asc z =
      let f = stands_first s in
      let e : q + length (tag_bodies (t ∷ ts)) ≡ behind q t + length (tag_bodies ts) = omega (arith, length_tag_bodies t ts) in
      more_ok p q t ts f asc (stands_ok ts (p + 8) (behind q t) f.next (ascending_tail compare_tags t ts asc) (rw e at z))

pub zeros_encoded : (ts : List Tag) → all_zero (drop (keys_after (length ts) + length (tag_bodies ts)) (encode_tags ts)) ≡ true
unfolding encode_tags
zeros_encoded ts = rw (← length_contents ts) (pad_zeros tags_length (tag_contents ts))

pub encoded_passes : (ts : List Tag) → ValidTags ts → is_tag_block (encode_tags ts) ≡ true
unfolding is_tag_block
encoded_passes ts v =
    rw (length_encoded ts v, count_encoded ts v, le-leb (length ts) max_tags v.count, parts_stand (encode_tags ts) 0 (keys_after (length ts)) ts (encoded_stands ts v))
    (stands_ok (encode_tags ts) ts tag_count_length (keys_after (length ts)) (encoded_stands ts v) v.order (zeros_encoded ts))
