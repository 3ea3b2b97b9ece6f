-- Tags as they stand in a block, their entries from one place on and their keys and values from another: what is read of the first of them,
-- where the others stand, and that the encoding of tags within the sizes has them so.
use mathlib.Core.Path.{◌≡◌, refl, sym, ap, ◌∙◌}
use mathlib.Core.Bool.{true, ◌&&◌}
use mathlib.Core.List.{List, [], ◌∷◌, ◌++◌, append_assoc}
use Prim.Native.Nat.{ℕ, ◌+◌, ◌-◌, ◌*◌, ◌≤◌}
use native.Mathlib.Omega.{arith}
use lib.ListN.{length, take, drop, replicate, length-append, length-drop}
use lib.Dec.{leb}
use lib.Seq.{take_at, drop_at, drop-drop}
use borrow.Author.Tests.{leb-true, le-leb}
use Rattle.std.proofs.lemmas.Bool.{and_parts}
use Rattle.model.specs.Bytes.{Bytes, every_byte}
use Rattle.model.specs.Numbers.{le32, number32}
use Rattle.model.specs.Record.{ascends}
use Rattle.model.specs.Statements.{Ascending}
use Rattle.model.specs.TagList.{Tag, compare_tags, max_tags, max_key, max_value, stored_byte, stored_key, all_stored, is_tag_list, tag_count_length, tags_length, tag_entries, tag_bodies, tag_contents, encode_tags, keys_after}
use Rattle.model.specs.TagStatements.{ValidTags}
use Rattle.block.proofs.Numbers32.{number32_le32, number32_drop, number32_drop_4}
use Rattle.block.proofs.Spliced.{length_pad_to}
use Rattle.text.proofs.Ascending.{ascends_true}
use Rattle.tag_list.proofs.Bodies.{length_tag_bodies, length_tag_entries}
use Rattle.tag_list.proofs.Valid.{valid_true}

-- ------------------------------------------------------------------ stored tags

pub stored_short : (k : Bytes) → stored_key k ≡ true → length k ≤ max_key
unfolding stored_key
stored_short k e = leb-true (length k) max_key (and_parts (leb (length k) max_key) (every_byte stored_byte k) e).0

-- the first of stored tags is stored, and so are the others
pub record StoredFirst (t : Tag) (ts : List Tag) : Type 0 where
  pub stored_key_lem : stored_key t.key ≡ true
  pub key_short : length t.key ≤ max_key
  pub value_short : length t.value ≤ max_value
  pub others : all_stored ts ≡ true

pub stored_first : (t : Tag) (ts : List Tag) → all_stored (t ∷ ts) ≡ true → StoredFirst t ts
unfolding all_stored
stored_first t ts e =
    let p = and_parts (stored_key t.key) (leb (length t.value) max_value && all_stored ts) e in
    let q = and_parts (leb (length t.value) max_value) (all_stored ts) p.1 in
    record {
      stored_key_lem = p.0;
      key_short = stored_short t.key p.0;
      value_short = leb-true (length t.value) max_value q.0;
      others = q.1;
    }

pub valid_stored : (ts : List Tag) → ValidTags ts → all_stored ts ≡ true
unfolding is_tag_list
valid_stored ts v =
    let p = and_parts (leb (length ts) max_tags) (ascends compare_tags ts && all_stored ts) ((valid_true ts).1 v) in
    (and_parts (ascends compare_tags ts) (all_stored ts) p.1).1

pub valid_of : (ts : List Tag) → length ts ≤ max_tags → Ascending compare_tags ts → all_stored ts ≡ true → ValidTags ts
valid_of ts few asc stored =
    (valid_true ts).0 (unfold is_tag_list in rw (le-leb (length ts) max_tags few, (ascends_true compare_tags ts).1 asc) stored)

pub bodies_within : (ts : List Tag) → all_stored ts ≡ true → length (tag_bodies ts) ≤ (max_key + max_value) * length ts
bodies_within [] e = unfold tag_bodies in omega arith
bodies_within (t ∷ ts) e =
    let s = stored_first t ts e in
    omega (arith, length_tag_bodies t ts, bodies_within ts s.others)

-- ------------------------------------------------------------------ the first of the tags

module _ (t : Tag) (ts : List Tag) (r : Bytes) where
  pub first_key_size : length t.key ≤ max_key → number32 (tag_entries (t ∷ ts) ++ r) 0 ≡ length t.key
  unfolding tag_entries
  first_key_size h = number32_le32 (length t.key) (le32 (length t.value) ++ (tag_entries ts ++ r)) (omega arith)

  pub first_value_size : length t.value ≤ max_value → number32 (tag_entries (t ∷ ts) ++ r) 4 ≡ length t.value
  unfolding tag_entries
  first_value_size h = number32_le32 (length t.value) (tag_entries ts ++ r) (omega arith)

  pub drop_entry : drop 8 (tag_entries (t ∷ ts) ++ r) ≡ tag_entries ts ++ r
  unfolding tag_entries
  drop_entry = refl

  pub bodies_first : tag_bodies (t ∷ ts) ++ r ≡ t.key ++ (t.value ++ (tag_bodies ts ++ r))
  unfolding tag_bodies
  bodies_first = simp append_assoc

-- the entries of ts stand from p on, their keys and values from q on
pub record Stands (b : Bytes) (p q : ℕ) (ts : List Tag) : Type 0 where
  pub rest : Bytes
  pub entries : drop p b ≡ tag_entries ts ++ rest
  pub after : Bytes
  pub bodies : drop q b ≡ tag_bodies ts ++ after
  pub stored : all_stored ts ≡ true
  pub within : (p ≤ length b) × (q ≤ length b)

-- what a loop over the tags finds at p and q, and where the tags left stand then
pub record First (b : Bytes) (p q : ℕ) (t : Tag) (ts : List Tag) : Type 0 where
  pub key_size : number32 b p ≡ length t.key
  pub value_size : number32 b (p + 4) ≡ length t.value
  pub key : take (length t.key) (drop q b) ≡ t.key
  pub value : take (length t.value) (drop (q + length t.key) b) ≡ t.value
  pub next : Stands b (p + 8) (q + length t.key + length t.value) ts
  pub entry_within : p + 8 ≤ length b
  pub body_within : q + length t.key + length t.value ≤ length b
  pub stored_key_lem : stored_key t.key ≡ true
  pub key_short : length t.key ≤ max_key
  pub value_short : length t.value ≤ max_value

pub stands_first : {b : Bytes} {p q : ℕ} {t : Tag} {ts : List Tag} → Stands b p q (t ∷ ts) → First b p q t ts
stands_first {b} {p} {q} {t} {ts} s =
    let u = stored_first t ts s.stored in
    let k = length t.key in
    let v = length t.value in
    let e = s.entries in
    let d : drop q b ≡ t.key ++ (t.value ++ (tag_bodies ts ++ s.after)) = s.bodies ∙ bodies_first t ts s.after in
    let d₁ : drop (q + k) b ≡ t.value ++ (tag_bodies ts ++ s.after) =
    sym (drop-drop k q b) ∙ rw d (drop_at t.key (t.value ++ (tag_bodies ts ++ s.after)) k refl) in
    let d₂ : drop (q + k + v) b ≡ tag_bodies ts ++ s.after =
    sym (drop-drop v (q + k) b) ∙ rw d₁ (drop_at t.value (tag_bodies ts ++ s.after) v refl) in
    let within : p + 8 ≤ length b = omega (arith, length-drop p b, ap length e, length-append (tag_entries (t ∷ ts)) s.rest, length_tag_entries (t ∷ ts)) in
    let within' : q + k + v ≤ length b =
    omega (arith, s.within.1, length-drop q b, ap length s.bodies, length-append (tag_bodies (t ∷ ts)) s.after, length_tag_bodies t ts) in
    record {
      key_size = sym (number32_drop b p) ∙ rw e (first_key_size t ts s.rest u.key_short);
      value_size = sym (number32_drop_4 b p) ∙ rw e (first_value_size t ts s.rest u.value_short);
      key = rw d (take_at t.key (t.value ++ (tag_bodies ts ++ s.after)) k refl);
      value = rw d₁ (take_at t.value (tag_bodies ts ++ s.after) v refl);
      next = record {
        rest = s.rest;
        entries = sym (drop-drop 8 p b) ∙ rw e (drop_entry t ts s.rest);
        after = s.after;
        bodies = d₂;
        stored = u.others;
        within = (within, within');
      };
      entry_within = within;
      body_within = within';
      stored_key_lem = u.stored_key_lem;
      key_short = u.key_short;
      value_short = u.value_short;
    }

-- ------------------------------------------------------------------ the encoding

pub length_contents : (ts : List Tag) → length (tag_contents ts) ≡ keys_after (length ts) + length (tag_bodies ts)
unfolding tag_contents
length_contents ts = omega (arith, length-append (tag_entries ts) (tag_bodies ts), length_tag_entries ts)

-- the zeros behind the contents
abbrev zeros_behind : List Tag → Bytes
zeros_behind ts = replicate (tags_length - length (tag_contents ts)) 0

entries_encoded : (ts : List Tag) → drop tag_count_length (encode_tags ts) ≡ tag_entries ts ++ (tag_bodies ts ++ zeros_behind ts)
unfolding encode_tags tag_contents
entries_encoded ts = append_assoc (tag_entries ts) (tag_bodies ts) (zeros_behind ts)

pub bodies_encoded : (ts : List Tag) → drop (keys_after (length ts)) (encode_tags ts) ≡ tag_bodies ts ++ zeros_behind ts
bodies_encoded ts =
    let n = 8 * length ts in
    sym (drop-drop n tag_count_length (encode_tags ts))
    ∙ rw (entries_encoded ts) (drop_at (tag_entries ts) (tag_bodies ts ++ zeros_behind ts) n (length_tag_entries ts))

-- part by part, with z zeros
pub encoded_parts : (ts : List Tag) (z : ℕ) → keys_after (length ts) + length (tag_bodies ts) + z ≡ tags_length
    → encode_tags ts ≡ le32 (length ts) ++ (tag_entries ts ++ (tag_bodies ts ++ replicate z 0))
unfolding encode_tags
encoded_parts ts z h =
    let e : tags_length - length (tag_contents ts) ≡ z = omega (arith, length_contents ts) in
    rw e (unfold tag_contents in simp append_assoc)

module _ (ts : List Tag) (v : ValidTags ts) where
  pub contents_within : length (tag_contents ts) ≤ tags_length
  contents_within = omega (arith, length_contents ts, bodies_within ts (valid_stored ts v), v.count)

  pub length_encoded : length (encode_tags ts) ≡ tags_length
  unfolding encode_tags
  length_encoded = length_pad_to tags_length (tag_contents ts) contents_within

  pub count_encoded : number32 (encode_tags ts) 0 ≡ length ts
  unfolding encode_tags tag_contents
  count_encoded =
      number32_le32 (length ts) ((tag_entries ts ++ tag_bodies ts) ++ zeros_behind ts) (omega (arith, v.count))

  pub encoded_stands : Stands (encode_tags ts) tag_count_length (keys_after (length ts)) ts
  encoded_stands = record {
    rest = tag_bodies ts ++ zeros_behind ts;
    entries = entries_encoded ts;
    after = zeros_behind ts;
    bodies = bodies_encoded ts;
    stored = valid_stored ts v;
    within = (omega (arith, length_encoded), omega (arith, length_encoded, contents_within, length_contents ts));
  }
