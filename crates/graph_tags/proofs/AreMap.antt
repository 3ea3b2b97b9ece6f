-- Blocks are finite maps: where keys and values stand, which changes are accepted, what each key gives after them, and that a block is told
-- by what its keys give.
use mathlib.Core.Path.{◌≡◌, refl, sym, ap, ◌∙◌}
use mathlib.Core.Logic.{◌⊎◌, inl, inr, ◌≢◌}
use mathlib.Core.Bool.{Bool, true, false, cond}
use mathlib.Core.List.{List}
use Rattle.std.specs.Prelude.{Option, Some, None, Ok, Err, slice_get}
use Prim.Native.Nat.{ℕ, ◌+◌, ◌≤◌, ◌<◌}
use native.Mathlib.Omega.{arith}
use lib.ListN.{length}
use lib.Dec.{leb}
use Rattle.model.specs.declared.fault.Fault.TheVariants.{OutputShort, BadKey, NotATagList}
use borrow.Author.Tests.{leb-true, le-leb}
use Rattle.model.specs.Bytes.{Bytes, same_bytes}
use Rattle.model.specs.Opening.{Given, and_then, or_refuse, number_of, is_some}
use Rattle.model.specs.Questions.{mapped}
use Rattle.model.specs.Written.{fits}
use Rattle.model.specs.TagList.{Tag, look_up, set_tag, remove_tag, max_tags, max_value, lower, fine_key, stored_key, encode_tags, decode_tags, keys_after, tag_count_length}
use Rattle.model.specs.TagOutcome.{Removal, tag_list, ready_key, parts_with, value_part, tag_at_in, get_in, value_in, judged_tags, insert_in, remove_in, rest_given, list_with}
use Rattle.model.specs.TagStatements.{ValidTags, TagsAreMap, part_in, tag_within}
use Rattle.tag_list.proofs.Map.{set_same, set_other, remove_same, remove_other, same_lists}
use Rattle.tag_list.proofs.Lowering.{lower_stored, lower_same, stored_fine}
use Rattle.tag_list.proofs.Valid.{length_set, set_valid, remove_valid}
use Rattle.tag_list.proofs.Standing.{valid_stored}
use Rattle.tag_list.proofs.Coding.{tags_decoded, decoded_valid, decoded_stands}
use Rattle.graph_tags.proofs.ThreeSet.{three_set}
use Rattle.tag_edits.proofs.Outcome.{tag_list_gives, with_key_gives, with_key_accepted, judged_gives, judged_accepted, value_decoded, value_encoded, look_unstored, parts_look, parts_listed, changed_value}

-- what is given is the same
given : {x y : Option Bytes} → ◌≡◌ {A = Given (Option Bytes)} (Ok x) (Ok y) → x ≡ y
given e = cc

-- ------------------------------------------------------------------ where keys and values stand

got : (b key : Bytes) → value_in b key ≡ and_then (get_in b key) λ o. Ok (mapped (part_in b) o)
unfolding value_in get_in tag_list ready_key
got b key = go (decode_tags b) refl (fine_key key)
  where
    go : (o : Option (List Tag)) → decode_tags b ≡ o → (t : Bool)
        → and_then (or_refuse NotATagList o) (λ ts. and_then (cond t (Ok (lower key)) (Err BadKey)) λ k. Ok (look_up k ts))
        ≡ and_then
        (and_then (or_refuse NotATagList o) (λ ts. and_then (cond t (Ok (lower key)) (Err BadKey)) λ k. Ok (mapped value_part (parts_with (keys_after (length ts)) k ts))))
        λ o. Ok (mapped (part_in b) o)
    go None d t = refl
    go (Some ts) d false = refl
    go (Some ts) d true = ap Ok (sym (parts_look b (lower key) ts tag_count_length (keys_after (length ts)) (decoded_stands b ts d)))

listed : (b : Bytes) (ts : List Tag) (i : ℕ) → decode_tags b ≡ Some ts
    → and_then (tag_at_in b i) (λ o. Ok (mapped (tag_within b) o)) ≡ Ok (slice_get ts i)
unfolding tag_at_in
listed b ts i d =
    rw (tag_list_gives b ts d) (ap Ok (parts_listed b ts tag_count_length (keys_after (length ts)) i (decoded_stands b ts d)))

-- ------------------------------------------------------------------ inserting

few_set : (k v : Bytes) (ts : List Tag) (o : Option Bytes) → (o ≢ None) ⊎ (length ts < max_tags) → length ts ≤ max_tags
    → length (set_tag k v ts) ≡ cond (is_some o) (length ts) (length ts + 1) → length (set_tag k v ts) ≤ max_tags
few_set k v ts None (inl n) l s = absurd (n refl)
few_set k v ts None (inr h) l s = omega arith
few_set k v ts (Some w) h l s = omega arith

-- as `insert_in` and `remove_in` go on with the list and the key
abbrev to_insert : Bytes → List Tag → Bytes → Given (List Tag)
to_insert value ts k = judged_tags (leb (length value) max_value) (set_tag k value ts)

abbrev to_remove : ℕ → List Tag → Bytes → Given Removal
to_remove room ts k = cond (fits (look_up k ts) room) (Ok (record { value = look_up k ts; rest = remove_tag k ts })) (Err OutputShort)

accepted : (b key value : Bytes) (ts : List Tag) → decode_tags b ≡ Some ts → fine_key key ≡ true → length value ≤ max_value
    → (look_up (lower key) ts ≢ None) ⊎ (length ts < max_tags) → number_of (insert_in b key value) ≡ 0
unfolding insert_in
accepted b key value ts d e short room =
    let v = decoded_valid b ts d in
    let k = lower key in
    let few = few_set k value ts (look_up k ts) room v.count (length_set k value ts v.order) in
    rw (
      with_key_gives b key (to_insert value) ts d e,
      judged_gives (leb (length value) max_value) (set_tag k value ts) (le-leb (length value) max_value short) few,
    )

inserted : (b key value j : Bytes) → number_of (insert_in b key value) ≡ 0 → fine_key j ≡ true
    → value_in (list_with (insert_in b key value) b) j ≡ cond (same_bytes (lower j) (lower key)) (Ok (Some value)) (value_in b j)
unfolding insert_in
inserted b key value j z e =
    let a = with_key_accepted b key (to_insert value) z in
    let ts = a.tags in
    let k = lower key in
    let us = set_tag k value ts in
    let (short, few) = judged_accepted (leb (length value) max_value) us a.zero in
    let valid = set_valid k value ts (decoded_valid b ts a.decoded) (lower_stored key a.fine) (leb-true (length value) max_value short) few in
    rw (
      with_key_gives b key (to_insert value) ts a.decoded a.fine,
      judged_gives (leb (length value) max_value) us short few,
      value_encoded us j valid e,
      value_decoded b ts j a.decoded e,
    )
    (changed_value (lower j) k (look_up (lower j) us) (Some value) (Ok (look_up (lower j) ts))
    (λ d. rw d (set_same k value ts))
    (λ n. ap Ok (set_other (lower j) k value ts n)))

removed : (b key : Bytes) (room : ℕ) (j : Bytes) → number_of (remove_in b key room) ≡ 0 → fine_key j ≡ true
    → value_in (list_with (rest_given (remove_in b key room)) b) j ≡ cond (same_bytes (lower j) (lower key)) (Ok None) (value_in b j)
unfolding remove_in
removed b key room j z e =
    let a = with_key_accepted b key (to_remove room) z in
    let ts = a.tags in
    let k = lower key in
    let us = remove_tag k ts in
    let v = decoded_valid b ts a.decoded in
    let room_for = go (fits (look_up k ts) room) (record { value = look_up k ts; rest = us }) a.zero in
    rw (
      with_key_gives b key (to_remove room) ts a.decoded a.fine,
      room_for,
      value_encoded us j (remove_valid k ts v) e,
      value_decoded b ts j a.decoded e,
    )
    (changed_value (lower j) k (look_up (lower j) us) None (Ok (look_up (lower j) ts))
    (λ d. rw d (remove_same k ts v.order))
    (λ n. ap Ok (remove_other (lower j) k ts n)))
  where
    go : (t : Bool) (r : Removal) → number_of (cond t (Ok r) (Err OutputShort)) ≡ 0 → t ≡ true
    go true r z = refl
    go false r z = absurd (omega arith)

-- ------------------------------------------------------------------ a block is told by what its keys give

same : (b c : Bytes) (ts us : List Tag) → decode_tags b ≡ Some ts → decode_tags c ≡ Some us
    → ((j : Bytes) → fine_key j ≡ true → value_in b j ≡ value_in c j) → b ≡ c
same b c ts us d e h =
    let v = decoded_valid b ts d in
    let w = decoded_valid c us e in
    (tags_decoded b ts d).1
    ∙ ap encode_tags (same_lists ts us v.order w.order (λ k. go v w k (stored_key k) refl))
    ∙ sym (tags_decoded c us e).1
  where
    go : ValidTags ts → ValidTags us → (k : Bytes) (t : Bool) → stored_key k ≡ t → look_up k ts ≡ look_up k us
    go v w k true s =
        let l = lower_same k s in
        let f = stored_fine k s in
        let x = value_decoded b ts k d f in
        let y = value_decoded c us k e f in
        rw l at (given (sym x ∙ h k f ∙ y))
    go v w k false s = look_unstored k ts s (valid_stored ts v) ∙ sym (look_unstored k us s (valid_stored us w))

pub tags_are_map : TagsAreMap
tags_are_map = record {
  got = got;
  listed = listed;
  accepted = accepted;
  inserted = inserted;
  removed = removed;
  three_set = three_set;
  same = same;
}
