-- A block of bytes is a tag list exactly if it passes the test.
use mathlib.Core.Path.{◌≡◌, refl, sym, ap, ◌∙◌}
use mathlib.Core.Bool.{true, false, ◌&&◌, false≢true}
use mathlib.Core.List.{List, ◌∷◌, ◌++◌, append_assoc}
use Rattle.std.specs.Prelude.{Option, Some, None}
use Prim.Native.Nat.{ℕ, zero, suc, ◌+◌, ◌*◌, ◌≤◌, ◌<◌}
use native.Mathlib.Omega.{arith}
use lib.ListN.{length, get_or, take, drop, replicate, length-append, length-drop, length-replicate, take-append-drop}
use lib.Seq.{length-take-le, drop-drop, get_or-drop, take-add}
use lib.Dec.{leb, eqb}
use borrow.Author.Tests.{leb-true, le-leb, lt-leb, eqb-true, eq-eqb, ne_eqb}
use Rattle.std.specs.declared.cmp.Ordering.{Ordering}
use Rattle.std.specs.declared.cmp.Ordering.TheVariants.{Less, Equal, Greater}
use Rattle.std.specs.Ordering.{is_lt}
use Rattle.std.specs.Cmp.{both_ways}
use Rattle.std.proofs.lemmas.Bool.{and_parts}
use Rattle.model.specs.Bytes.{Bytes}
use Rattle.model.specs.Numbers.{le32, number32}
use Rattle.model.specs.Opening.{is_some}
use Rattle.model.specs.Statements.{Ascending}
use Rattle.model.specs.TagList.{Tag, tag, compare_tags, max_tags, max_key, max_value, stored_key, all_stored, tag_count_length, tags_length, tag_entries, tag_bodies, encode_tags, keys_after, tags_in, shown_tags, decode_tags}
use Rattle.text.proofs.Blocks.{zeros_only}
use Rattle.block.proofs.Numbers32.{le32_again, number32_drop, number32_drop_4}
use Rattle.tag_list.specs.Parts.{key_size_of, value_size_of, parts_read, parts_end}
use Rattle.tag_list.specs.Tags.{parts_from}
use Rattle.tag_list.specs.Test.{before_next, tag_ok, tags_ok, is_tag_block}
use Rattle.tag_list.proofs.Bodies.{length_tag_entries}
use Rattle.tag_list.proofs.Standing.{valid_of, encoded_parts}
use Rattle.tag_list.proofs.Passing.{encoded_passes}
use Rattle.tag_list.proofs.Coding.{tags_in_step, decode_some, tags_decoded}

-- every entry is a byte
abbrev AllBytes : Bytes → Type 0
AllBytes b = (i : ℕ) → get_or b i 0 < 256

bytes_drop : (a : ℕ) (b : Bytes) → AllBytes b → AllBytes (drop a b)
bytes_drop a b h i = rw get_or-drop (h (a + i))

-- ------------------------------------------------------------------ what passes is a tag list

-- the key at q whose entry stands at p, the value behind it, and where the next key stands
abbrev key_at : Bytes → ℕ → ℕ → Bytes
key_at b p q = take (key_size_of b p) (drop q b)

abbrev next_key : Bytes → ℕ → ℕ → ℕ
next_key b p q = parts_end (parts_read b p q)

abbrev value_at : Bytes → ℕ → ℕ → Bytes
value_at b p q = take (value_size_of b p) (drop (q + key_size_of b p) b)

tags_in_at : (n : ℕ) (b : Bytes) (p q : ℕ) → tags_in (suc n) (drop p b) (drop q b)
    ≡ tag (key_at b p q) (value_at b p q) ∷ tags_in n (drop (p + 8) b) (drop (next_key b p q) b)
tags_in_at n b p q =
    let k = key_size_of b p in
    let v = value_size_of b p in
    let e : q + (k + v) ≡ q + k + v = omega arith in
    tags_in_step n (drop p b) (drop q b) k v (number32_drop b p) (number32_drop_4 b p)
    ∙ rw (drop-drop k q b, drop-drop 8 p b, drop-drop (k + v) q b, e)

-- a tag that passes
record Passes (b : Bytes) (p q : ℕ) : Type 0 where
  key_short : key_size_of b p ≤ max_key
  value_short : value_size_of b p ≤ max_value
  stored : stored_key (key_at b p q) ≡ true

passes : (b : Bytes) (p q : ℕ) → tag_ok b (parts_read b p q) ≡ true → Passes b p q
unfolding tag_ok
passes b p q e =
    let (key, more) = and_parts (leb (key_size_of b p) max_key) _ e in
    let (value, stored) = and_parts (leb (value_size_of b p) max_value) _ more in
    record { key_short = leb-true (key_size_of b p) max_key key; value_short = leb-true (value_size_of b p) max_value value; stored = stored }

-- n tags read at p and q, with nothing but zeros behind them
record Reads (b : Bytes) (p q n : ℕ) (ts : List Tag) : Type 0 where
  count : length ts ≡ n
  order : Ascending compare_tags ts
  stored : all_stored ts ≡ true
  entries : take (8 * n) (drop p b) ≡ tag_entries ts
  zeros : ℕ
  bodies : drop q b ≡ tag_bodies ts ++ replicate zeros 0

module _ (b : Bytes) (a : AllBytes b) where
  -- the two sizes of an entry, written again
  entry_again : (p n : ℕ) → p + 8 * suc n ≤ length b
      → take (8 * suc n) (drop p b) ≡ le32 (key_size_of b p) ++ (le32 (value_size_of b p) ++ take (8 * n) (drop (p + 8) b))
  entry_again p n h =
      let e : 8 * suc n ≡ 4 + (4 + 8 * n) = omega arith in
      let f : p + 4 + 4 ≡ p + 8 = omega arith in
      let first : take 4 (drop p b) ≡ le32 (key_size_of b p) =
      sym (le32_again (drop p b) (bytes_drop p b a) (rw length-drop (omega arith))) ∙ ap le32 (number32_drop b p) in
      let second : take 4 (drop (p + 4) b) ≡ le32 (value_size_of b p) =
      sym (le32_again (drop (p + 4) b) (bytes_drop (p + 4) b a) (rw length-drop (omega arith))) ∙ ap le32 (number32_drop b (p + 4)) in
      rw (e, take-add 4 (4 + 8 * n) (drop p b), drop-drop 4 p b, take-add 4 (8 * n) (drop (p + 4) b), drop-drop 4 (p + 4) b, f, first, second)

  -- a tag that passes, before the others that are read
  module _ (p q n : ℕ) (h : p + 8 * suc n ≤ length b) (l : q + (max_key + max_value) * suc n ≤ length b) (t : Passes b p q) where
    key_length : length (key_at b p q) ≡ key_size_of b p
    key_length = length-take-le (key_size_of b p) (drop q b) (rw length-drop (omega (arith, t.key_short)))

    value_length : length (value_at b p q) ≡ value_size_of b p
    value_length = length-take-le (value_size_of b p) (drop (q + key_size_of b p) b) (rw length-drop (omega (arith, t.key_short, t.value_short)))

    first_reads : (us : List Tag) → Ascending compare_tags (tag (key_at b p q) (value_at b p q) ∷ us) → Reads b (p + 8) (next_key b p q) n us
        → Reads b p q (suc n) (tag (key_at b p q) (value_at b p q) ∷ us)
    first_reads us asc r = record {
      count = ap suc r.count;
      order = asc;
      stored = unfold all_stored in rw (t.stored, value_length, le-leb (value_size_of b p) max_value t.value_short) r.stored;
      entries = entry_again p n h ∙ (unfold tag_entries in rw (key_length, value_length, r.entries));
      zeros = r.zeros;
      bodies =
          sym (take-append-drop (key_size_of b p) (drop q b))
          ∙ ap (λ (x : Bytes). key_at b p q ++ x) (drop-drop (key_size_of b p) q b ∙ sym (take-append-drop (value_size_of b p) (drop (q + key_size_of b p) b))
          ∙ ap (λ (x : Bytes). value_at b p q ++ x) (drop-drop (value_size_of b p) (q + key_size_of b p) b ∙ r.bodies))
          ∙ (unfold tag_bodies in simp append_assoc);
    }

  -- in order before the next, if there is one
  less_true : (o : Ordering) → is_lt o ≡ true → o ≡ Less
  less_true Less h = refl
  less_true Equal h = cc
  less_true Greater h = cc

  before_read : (n i q : ℕ) → before_next b (parts_read b (keys_after i) q) (parts_from b (i + 1) (next_key b (keys_after i) q) n) ≡ true
      → Ascending compare_tags (tags_in n (drop (keys_after (i + 1)) b) (drop (next_key b (keys_after i) q) b))
      → Ascending compare_tags (tag (key_at b (keys_after i) q) (value_at b (keys_after i) q) ∷ tags_in n (drop (keys_after (i + 1)) b) (drop (next_key b (keys_after i) q) b))
  before_read zero i q e asc = unfold tags_in Ascending in tt
  before_read (suc n) i q e asc =
      let step = tags_in_at n b (keys_after (i + 1)) (next_key b (keys_after i) q) in
      rw step (unfold Ascending in (less_true _ (unfold before_next parts_from in e), rw step at asc))

  none_read : (i q : ℕ) → tags_ok b q (parts_from b i q 0) ≡ true → Reads b (keys_after i) q 0 (tags_in 0 (drop (keys_after i) b) (drop q b))
  unfolding tags_in tags_ok parts_from Ascending all_stored tag_entries tag_bodies
  none_read i q e = record {
    count = refl;
    order = tt;
    stored = refl;
    entries = refl;
    zeros = length (drop q b);
    bodies = zeros_only (drop q b) e;
  }

  tags_read : (n i q : ℕ) → keys_after i + 8 * n ≤ length b → q + (max_key + max_value) * n ≤ length b → tags_ok b q (parts_from b i q n) ≡ true
      → Reads b (keys_after i) q n (tags_in n (drop (keys_after i) b) (drop q b))
  tags_read zero i q h l e = none_read i q e
  tags_read (suc n) i q h l e =
      let p = keys_after i in
      let next : p + 8 ≡ keys_after (i + 1) = omega arith in
      let left = parts_from b (i + 1) (next_key b p q) n in
      let (ok, more) = and_parts (tag_ok b (parts_read b p q)) (before_next b (parts_read b p q) left && tags_ok b (next_key b p q) left) (unfold tags_ok parts_from in e) in
      let (before, others) = and_parts (before_next b (parts_read b p q) left) (tags_ok b (next_key b p q) left) more in
      let t = passes b p q ok in
      let r = tags_read n (i + 1) (next_key b p q) (omega arith) (omega (arith, t.key_short, t.value_short)) others in
      rw (tags_in_at n b p q) (first_reads p q n h l t _ (rw next (before_read n i q before r.order)) (rw next r))

  -- a block is the encoding of the tags that are read of it
  block_again : (ts : List Tag) → length b ≡ tags_length → Reads b tag_count_length (keys_after (number32 b 0)) (number32 b 0) ts → encode_tags ts ≡ b
  block_again ts size r =
      let n = number32 b 0 in
      let z = replicate {A = ℕ} r.zeros 0 in
      let count : le32 n ≡ take 4 b = le32_again b a (omega arith) in
      let behind : drop 4 b ≡ tag_entries ts ++ (tag_bodies ts ++ z) =
      sym (take-append-drop (8 * n) (drop 4 b)) ∙ rw (r.entries, drop-drop (8 * n) 4 b, r.bodies) in
      let whole : b ≡ le32 n ++ (tag_entries ts ++ (tag_bodies ts ++ z)) = sym (take-append-drop 4 b) ∙ rw (← count, behind) in
      let lengths : keys_after (length ts) + length (tag_bodies ts) + r.zeros ≡ tags_length =
      omega (
        arith,
        ap length whole,
        length-append (tag_entries ts) (tag_bodies ts ++ z),
        length-append (tag_bodies ts) z,
        length_tag_entries ts,
        length-replicate {A = ℕ} r.zeros 0,
      ) in
      encoded_parts ts r.zeros lengths ∙ rw r.count (sym whole)

  passed : is_tag_block b ≡ true → decode_tags b ≡ Some (shown_tags b)
  unfolding is_tag_block shown_tags
  passed e =
      let n = number32 b 0 in
      let (size, more) = and_parts (eqb (length b) tags_length) _ e in
      let (count, ok) = and_parts (leb n max_tags) _ more in
      let long = eqb-true (length b) tags_length size in
      let few = leb-true n max_tags count in
      let ts = tags_in n (drop tag_count_length b) (drop (keys_after n) b) in
      let r : Reads b tag_count_length (keys_after n) n ts = tags_read n 0 (keys_after n) (omega arith) (omega arith) ok in
      decode_some b ts refl (valid_of ts (omega (arith, r.count)) r.order r.stored) (block_again ts long r)

-- ------------------------------------------------------------------ the parts of the test

module _ (b : Bytes) (a : (i : ℕ) → get_or b i 0 < 256) where
  -- a block is a tag list exactly if it passes the test
  pub is_tag_block_lem : is_tag_block b ≡ is_some (decode_tags b)
  is_tag_block_lem = both_ways (is_tag_block b) (is_some (decode_tags b)) (λ e. rw (passed b a e)) (λ e. go (decode_tags b) refl e)
    where
      go : (o : Option (List Tag)) → decode_tags b ≡ o → is_some o ≡ true → is_tag_block b ≡ true
      go None d e = absurd (false≢true e)
      go (Some ts) d e = let p = tags_decoded b ts d in rw p.1 (encoded_passes ts p.0)

  -- the length, the count, and then the tags decide
  pub block_length : (length b ≡ tags_length → ⊥) → false ≡ is_some (decode_tags b)
  unfolding is_tag_block
  block_length h = rw (ne_eqb (length b) tags_length h) at is_tag_block_lem

  pub block_count : length b ≡ tags_length → max_tags < number32 b 0 → false ≡ is_some (decode_tags b)
  unfolding is_tag_block
  block_count l h = rw (eq-eqb (length b) tags_length l, lt-leb (number32 b 0) max_tags h) at is_tag_block_lem

  pub block_tags : length b ≡ tags_length → number32 b 0 ≤ max_tags
      → tags_ok b (keys_after (number32 b 0)) (parts_from b 0 (keys_after (number32 b 0)) (number32 b 0)) ≡ is_some (decode_tags b)
  unfolding is_tag_block
  block_tags l h = rw (eq-eqb (length b) tags_length l, le-leb (number32 b 0) max_tags h) at is_tag_block_lem
