-- The list and the key of a call: refused, or ready for use.
use mathlib.Core.Path.{◌≡◌, refl}
use mathlib.Core.Bool.{Bool, true, false}
use mathlib.Core.List.{List}
use Rattle.std.specs.Prelude.{Ok, Err}
use Rattle.model.specs.declared.fault.Fault.TheVariants.{NotATagList}
use Rattle.model.specs.Bytes.{Bytes}
use Rattle.model.specs.Opening.{Given, is_some, settled}
use Rattle.model.specs.TagList.{Tag, lower, fine_key, shown_tags, decode_tags}
use Rattle.model.specs.TagOutcome.{tag_list, ready_key, with_key}
use Rattle.tag_list.proofs.Coding.{decode_is, decode_not}

module _ (b : Bytes) where
  pub list_refused : is_some (decode_tags b) ≡ false → tag_list b ≡ Err NotATagList
  unfolding tag_list
  list_refused e = rw (decode_not b e)

  pub list_given : is_some (decode_tags b) ≡ true → tag_list b ≡ Ok (shown_tags b)
  unfolding tag_list
  list_given e = rw (decode_is b e)

pub ruleset listed = (list_refused, list_given)

-- a list that is not refused is what the block shows
module _ (b : Bytes) (ts : List Tag) (e : tag_list b ≡ Ok ts) where
  pub list_is : is_some (decode_tags b) ≡ true
  list_is = go (is_some (decode_tags b)) refl
    where
      go : (t : Bool) → is_some (decode_tags b) ≡ t → t ≡ true
      go true d = refl
      go false d = let r = list_refused b d in cc

  pub list_shown : ts ≡ shown_tags b
  list_shown = let r = list_given b list_is in cc

pub list_opened : (b : Bytes) → settled (tag_list b) ≡ Ok tt → is_some (decode_tags b) ≡ true
list_opened b e = go (tag_list b) refl e
  where
    go : (g : Given (List Tag)) → tag_list b ≡ g → settled g ≡ Ok tt → is_some (decode_tags b) ≡ true
    go (Ok ts) q e = list_is b ts q
    go (Err f) q e = cc

pub ruleset opened = (list_is, list_shown)

module _ (b : Bytes) where
  pub with_ready : (key : Bytes) {A : Type 0} (f : List Tag → Bytes → Given A) → is_some (decode_tags b) ≡ true → fine_key key ≡ true
      → with_key b key f ≡ f (shown_tags b) (lower key)
  unfolding ready_key
  with_ready key f d e = rw (list_given b d, e)
