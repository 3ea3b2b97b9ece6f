-- What the answers about a block give by its tags: refusals told by their number, a key's value, and the parts where keys and values stand.
use mathlib.Core.Path.{◌≡◌, refl, ap, ◌∙◌}
use mathlib.Core.Bool.{Bool, true, false, cond}
use mathlib.Core.Logic.{◌≢◌}
use mathlib.Core.List.{List, [], ◌∷◌}
use Rattle.std.specs.Prelude.{Option, Some, None, Ok, Err, slice_get}
use Prim.Native.Nat.{ℕ, zero, suc, ◌≤◌}
use native.Mathlib.Omega.{arith}
use lib.ListN.{length}
use lib.Dec.{leb}
use Rattle.model.specs.declared.fault.Fault.TheVariants.{BadKey, LongValue, TagsFull, NotATagList}
use borrow.Author.Tests.{leb-true, le-leb}
use Rattle.model.specs.Bytes.{Bytes, same_bytes}
use Rattle.model.specs.Opening.{Given, and_then, or_refuse, number_of}
use Rattle.model.specs.Questions.{mapped}
use Rattle.model.specs.TagList.{Tag, look_up, max_tags, lower, fine_key, stored_key, all_stored, encode_tags, decode_tags}
use Rattle.model.specs.TagOutcome.{tag_list, ready_key, with_key, parts_of, behind, parts_at, parts_with, value_part, value_in, judged_tags}
use Rattle.model.specs.TagStatements.{ValidTags, part_in, tag_within}
use Rattle.text.proofs.Order.{same_bytes_true}
use Rattle.tag_list.proofs.Keys.{look_none, look_past}
use Rattle.tag_list.proofs.Standing.{Stands, First, stored_first, stands_first}
use Rattle.tag_list.proofs.Coding.{tags_encoded}

-- keys that a test tells apart
pub differ : (j k : Bytes) → same_bytes j k ≡ false → j ≢ k
differ j k f e = let z : ◌≡◌ {A = ℕ} 0 1 = cc ((same_bytes_true j k).1 e) in omega arith

-- ------------------------------------------------------------------ the list and the key

pub tag_list_gives : (b : Bytes) (ts : List Tag) → decode_tags b ≡ Some ts → tag_list b ≡ Ok ts
unfolding tag_list
tag_list_gives b ts d = rw d

pub list_accepted : {A : Type 0} (b : Bytes) (f : List Tag → Given A) → number_of (and_then (tag_list b) f) ≡ 0
    → (ts : List Tag) × (decode_tags b ≡ Some ts) × (number_of (f ts) ≡ 0)
unfolding tag_list
list_accepted b f z = go (decode_tags b) refl z
  where
    go : (o : Option (List Tag)) → decode_tags b ≡ o → number_of (and_then (or_refuse NotATagList o) f) ≡ 0
        → (ts : List Tag) × (decode_tags b ≡ Some ts) × (number_of (f ts) ≡ 0)
    go None d z = absurd (omega arith)
    go (Some ts) d z = (ts, d, z)

module _ {A : Type 0} (b key : Bytes) (f : List Tag → Bytes → Given A) where
  pub with_key_gives : (ts : List Tag) → decode_tags b ≡ Some ts → fine_key key ≡ true → with_key b key f ≡ f ts (lower key)
  unfolding tag_list ready_key
  with_key_gives ts d e = rw (d, e)

  -- what is not refused has a list and a key
  pub record Accepted : Type 0 where
    pub tags : List Tag
    pub decoded : decode_tags b ≡ Some tags
    pub fine : fine_key key ≡ true
    pub zero : number_of (f tags (lower key)) ≡ 0

  pub with_key_accepted : number_of (with_key b key f) ≡ 0 → Accepted
  unfolding tag_list ready_key
  with_key_accepted z = go (decode_tags b) refl (fine_key key) refl z
    where
      go : (o : Option (List Tag)) → decode_tags b ≡ o → (t : Bool) → fine_key key ≡ t
          → number_of (and_then (or_refuse NotATagList o) λ ts. and_then (cond t (Ok (lower key)) (Err BadKey)) λ k. f ts k) ≡ 0 → Accepted
      go None d t e z = absurd (omega arith)
      go (Some ts) d false e z = absurd (omega arith)
      go (Some ts) d true e z = record { tags = ts; decoded = d; fine = e; zero = z }

module _ (short : Bool) (ts : List Tag) where
  pub judged_gives : short ≡ true → length ts ≤ max_tags → judged_tags short ts ≡ Ok ts
  unfolding judged_tags
  judged_gives s few = rw (s, le-leb (length ts) max_tags few)

  pub judged_accepted : number_of (judged_tags short ts) ≡ 0 → (short ≡ true) × (length ts ≤ max_tags)
  unfolding judged_tags
  judged_accepted z = go short refl (leb (length ts) max_tags) refl z
    where
      go : (s : Bool) → short ≡ s → (t : Bool) → leb (length ts) max_tags ≡ t → number_of (cond s (cond t (Ok ts) (Err TagsFull)) (Err LongValue)) ≡ 0
          → (short ≡ true) × (length ts ≤ max_tags)
      go true e true f z = (e, leb-true (length ts) max_tags f)
      go true e false f z = absurd (omega arith)
      go false e t f z = absurd (omega arith)

-- ------------------------------------------------------------------ a key's value

pub value_decoded : (b : Bytes) (ts : List Tag) (j : Bytes) → decode_tags b ≡ Some ts → fine_key j ≡ true → value_in b j ≡ Ok (look_up (lower j) ts)
unfolding value_in
value_decoded b ts j d e = with_key_gives b j (λ us k. Ok (look_up k us)) ts d e

pub value_encoded : (ts : List Tag) (j : Bytes) → ValidTags ts → fine_key j ≡ true → value_in (encode_tags ts) j ≡ Ok (look_up (lower j) ts)
value_encoded ts j v e = value_decoded (encode_tags ts) ts j (tags_encoded ts v) e

-- what a key gives, by whether it is the one that was changed
pub changed_value : (j k : Bytes) (x y : Option Bytes) (z : Given (Option Bytes)) → (j ≡ k → x ≡ y) → (j ≢ k → Ok x ≡ z)
    → Ok x ≡ cond (same_bytes j k) (Ok y) z
changed_value j k x y z f g = go (same_bytes j k) refl
  where
    go : (t : Bool) → same_bytes j k ≡ t → Ok x ≡ cond t (Ok y) z
    go true e = ap Ok (f ((same_bytes_true j k).0 e))
    go false e = g (differ j k e)

-- a key that no tag can have
pub look_unstored : (k : Bytes) (ts : List Tag) → stored_key k ≡ false → all_stored ts ≡ true → look_up k ts ≡ None
look_unstored k [] n s = look_none k
look_unstored k (t ∷ ts) n s =
    let f = stored_first t ts s in
    look_past k t ts (λ e. let z : ◌≡◌ {A = ℕ} 0 1 = cc (f.stored_key_lem, ap stored_key e) in omega arith) ∙ look_unstored k ts n f.others

-- ------------------------------------------------------------------ parts of the block

module _ (b : Bytes) where
  pub parts_look : (k : Bytes) (ts : List Tag) (p q : ℕ) → Stands b p q ts → mapped (part_in b) (mapped value_part (parts_with q k ts)) ≡ look_up k ts
  unfolding parts_with look_up
  parts_look k [] p q s = refl
  parts_look k (t ∷ ts) p q s = let f = stands_first s in go (same_bytes k t.key) f (parts_look k ts _ _ f.next)
    where
      go : (o : Bool) → First b p q t ts
          → mapped (part_in b) (mapped value_part (parts_with (behind q t) k ts)) ≡ look_up k ts
          → mapped (part_in b) (mapped value_part (cond o (Some (parts_of q t)) (parts_with (behind q t) k ts))) ≡ cond o (Some t.value) (look_up k ts)
      go true f r = ap (λ (x : Bytes). Some x) f.value
      go false f r = r

  pub parts_listed : (ts : List Tag) (p q i : ℕ) → Stands b p q ts → mapped (tag_within b) (parts_at q ts i) ≡ slice_get ts i
  unfolding parts_at
  parts_listed [] p q i s = refl
  parts_listed (t ∷ ts) p q zero s = let f = stands_first s in λ j. Some (record { key = f.key j; value = f.value j })
  parts_listed (t ∷ ts) p q (suc i) s = parts_listed ts _ _ i (stands_first s).next
