-- Blocks and their meaning: decoding undoes encoding, and what decodes is the encoding of what it shows.
use mathlib.Core.Path.{◌≡◌, refl, sym, ap, ap₂, ◌∙◌}
use mathlib.Core.Bool.{Bool, true, false, cond, ◌&&◌, false≢true}
use mathlib.Core.List.{List, [], ◌∷◌, ◌++◌}
use Rattle.std.specs.Prelude.{Option, Some, None}
use Rattle.std.proofs.lemmas.Bool.{and_parts}
use Prim.Native.Nat.{ℕ, suc, ◌+◌}
use native.Mathlib.Omega.{arith}
use lib.ListN.{length, take, drop}
use lib.Seq.{take_at, drop_at, drop-drop}
use Rattle.model.specs.Bytes.{Bytes, same_bytes}
use Rattle.model.specs.Numbers.{number32}
use Rattle.model.specs.Opening.{is_some}
use Rattle.model.specs.TagList.{Tag, tag, all_stored, is_tag_list, tag_count_length, tags_length, tag_entries, tag_bodies, encode_tags, keys_after, tags_in, shown_tags, decode_tags}
use Rattle.model.specs.TagStatements.{ValidTags, TagsEncoded, TagsDecoded}
use Rattle.text.proofs.Order.{same_bytes_refl, same_bytes_true}
use Rattle.tag_list.proofs.Valid.{valid_true}
use Rattle.tag_list.proofs.Standing.{stored_first, first_key_size, first_value_size, drop_entry, bodies_first, Stands, length_encoded, count_encoded, encoded_stands}

-- ------------------------------------------------------------------ tags read off

-- one tag, by its sizes
pub tags_in_step : (n : ℕ) (e b : Bytes) (k v : ℕ) → number32 e 0 ≡ k → number32 e 4 ≡ v
    → tags_in (suc n) e b ≡ tag (take k b) (take v (drop k b)) ∷ tags_in n (drop 8 e) (drop (k + v) b)
unfolding tags_in
tags_in_step n e b k v h i = rw (h, i)

pub tags_in_lem : (ts : List Tag) (r z : Bytes) → all_stored ts ≡ true → tags_in (length ts) (tag_entries ts ++ r) (tag_bodies ts ++ z) ≡ ts
tags_in_lem [] r z s = unfold tags_in in refl
tags_in_lem (t ∷ ts) r z s =
    let f = stored_first t ts s in
    let k = length t.key in
    let v = length t.value in
    let b = tag_bodies (t ∷ ts) ++ z in
    let rest = tag_bodies ts ++ z in
    let whole : b ≡ t.key ++ (t.value ++ rest) = bodies_first t ts z in
    let front : take k b ≡ t.key = rw whole (take_at t.key (t.value ++ rest) k refl) in
    let behind : drop k b ≡ t.value ++ rest = rw whole (drop_at t.key (t.value ++ rest) k refl) in
    let next : drop (k + v) b ≡ rest = sym (drop-drop v k b) ∙ rw behind (drop_at t.value rest v refl) in
    let value : take v (drop k b) ≡ t.value = rw behind (take_at t.value rest v refl) in
    tags_in_step (length ts) (tag_entries (t ∷ ts) ++ r) b k v (first_key_size t ts r f.key_short) (first_value_size t ts r f.value_short)
    ∙ ap₂ ◌∷◌ (λ i. record { key = front i; value = value i }) (rw (drop_entry t ts r, next) (tags_in_lem ts r z f.others))

shown_encoded : (ts : List Tag) → ValidTags ts → shown_tags (encode_tags ts) ≡ ts
unfolding shown_tags
shown_encoded ts v =
    let s = encoded_stands ts v in
    rw (count_encoded ts v, s.entries, s.bodies) (tags_in_lem ts s.rest s.after s.stored)

-- ------------------------------------------------------------------ decoding

pub decode_some : (b : Bytes) (ts : List Tag) → shown_tags b ≡ ts → ValidTags ts → encode_tags ts ≡ b → decode_tags b ≡ Some ts
unfolding decode_tags
decode_some b ts s v e = rw (s, (valid_true ts).1 v, e, same_bytes_refl b)

pub tags_encoded : TagsEncoded
tags_encoded ts v = decode_some (encode_tags ts) ts (shown_encoded ts v) v refl

-- what decodes passes both tests, and is what is shown
decode_passes : (b : Bytes) (ts : List Tag) → decode_tags b ≡ Some ts
    → (is_tag_list (shown_tags b) && same_bytes (encode_tags (shown_tags b)) b ≡ true) × (shown_tags b ≡ ts)
unfolding decode_tags
decode_passes b ts e = go (is_tag_list (shown_tags b) && same_bytes (encode_tags (shown_tags b)) b) e
  where
    go : (t : Bool) → cond t (Some (shown_tags b)) None ≡ Some ts → (t ≡ true) × (shown_tags b ≡ ts)
    go true e = (refl, cc)
    go false e = let z : ◌≡◌ {A = ℕ} 0 1 = cc in absurd (omega arith)

pub decode_shown : (b : Bytes) (ts : List Tag) → decode_tags b ≡ Some ts → shown_tags b ≡ ts
decode_shown b ts e = (decode_passes b ts e).1

pub tags_decoded : TagsDecoded
tags_decoded b ts e =
    let (t, s) = decode_passes b ts e in
    let p = and_parts (is_tag_list (shown_tags b)) (same_bytes (encode_tags (shown_tags b)) b) t in
    (rw s at ((valid_true (shown_tags b)).0 p.0), sym (rw s at ((same_bytes_true (encode_tags (shown_tags b)) b).0 p.1)))

pub decode_is : (b : Bytes) → is_some (decode_tags b) ≡ true → decode_tags b ≡ Some (shown_tags b)
decode_is b t = go (decode_tags b) refl t
  where
    go : (o : Option (List Tag)) → decode_tags b ≡ o → is_some o ≡ true → decode_tags b ≡ Some (shown_tags b)
    go None e t = absurd (false≢true t)
    go (Some ts) e t = e ∙ ap (λ (us : List Tag). Some us) (sym (decode_shown b ts e))

pub decode_not : (b : Bytes) → is_some (decode_tags b) ≡ false → decode_tags b ≡ None
decode_not b t = go (decode_tags b) t
  where
    go : (o : Option (List Tag)) → is_some o ≡ false → o ≡ None
    go None t = refl
    go (Some ts) t = absurd (false≢true (sym t))

-- ------------------------------------------------------------------ a block that is a tag list

module _ (b : Bytes) (ts : List Tag) (d : decode_tags b ≡ Some ts) where
  pub decoded_valid : ValidTags ts
  decoded_valid = (tags_decoded b ts d).0

  pub decoded_stands : Stands b tag_count_length (keys_after (length ts)) ts
  decoded_stands = rw (tags_decoded b ts d).1 (encoded_stands ts decoded_valid)

  pub decoded_length : length b ≡ tags_length
  decoded_length = rw (tags_decoded b ts d).1 (length_encoded ts decoded_valid)
