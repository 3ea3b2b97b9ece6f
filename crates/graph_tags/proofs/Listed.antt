-- A block after a change is a tag list again, and a loop over changes leaves the rest of them to do.
use mathlib.Core.Path.{◌≡◌}
use mathlib.Core.Bool.{true}
use mathlib.Core.List.{List, [], ◌∷◌}
use Rattle.std.specs.Prelude.{Option}
use Prim.Native.Nat.{ℕ, ◌+◌, ◌≤◌, ◌<◌}
use native.Mathlib.Omega.{arith}
use lib.ListN.{length, drop, get_or, drop_of_length-le}
use Rattle.std.proofs.lemmas.List.{drop_more}
use Rattle.model.specs.Bytes.{Bytes}
use Rattle.model.specs.Opening.{is_some}
use Rattle.model.specs.Written.{fits}
use Rattle.model.specs.Statements.{Ascending}
use Rattle.model.specs.TagList.{Tag, compare_tags, max_tags, max_value, stored_key, encode_tags, shown_tags, decode_tags}
use Rattle.model.specs.TagStatements.{ValidTags}
use Rattle.tag_list.proofs.Coding.{tags_encoded, decode_shown}
use Rattle.tag_list.proofs.Walk.{holds}
use Rattle.graph_tags.specs.declared.change.Change.{Change}
use Rattle.graph_tags.specs.Change.{value_of, remove_absent, set_present, cleared, filled}
use Rattle.graph_tags.proofs.OneChange.{present_kept, present_longer, absent_valid, present_valid}

-- ------------------------------------------------------------------ a block

pub listed_is : (ts : List Tag) → ValidTags ts → is_some (decode_tags (encode_tags ts)) ≡ true
listed_is ts v = rw (tags_encoded ts v)

pub listed_shown : (ts : List Tag) → ValidTags ts → shown_tags (encode_tags ts) ≡ ts
listed_shown ts v = decode_shown (encode_tags ts) ts (tags_encoded ts v)

module _ (b : Bytes) (d : is_some (decode_tags b) ≡ true) where
  pub block : b ≡ encode_tags (shown_tags b)
  block = (holds b d).block

  module _ (k : Bytes) (o : Option Bytes) where
    -- after a removal
    absent : ValidTags (remove_absent k o (shown_tags b))
    absent = absent_valid k o (shown_tags b) (holds b d).valid

    pub absent_is : is_some (decode_tags (encode_tags (remove_absent k o (shown_tags b)))) ≡ true
    absent_is = listed_is (remove_absent k o (shown_tags b)) absent

    pub absent_shown : shown_tags (encode_tags (remove_absent k o (shown_tags b))) ≡ remove_absent k o (shown_tags b)
    absent_shown = listed_shown (remove_absent k o (shown_tags b)) absent

    -- after a setting
    module _ (stored : stored_key k ≡ true) (short : fits o max_value ≡ true) (few : length (set_present k o (shown_tags b)) ≤ max_tags) where
      present : ValidTags (set_present k o (shown_tags b))
      present = present_valid k o (shown_tags b) (holds b d).valid stored short few

      pub present_is : is_some (decode_tags (encode_tags (set_present k o (shown_tags b)))) ≡ true
      present_is = listed_is (set_present k o (shown_tags b)) present

      pub present_shown : shown_tags (encode_tags (set_present k o (shown_tags b))) ≡ set_present k o (shown_tags b)
      present_shown = listed_shown (set_present k o (shown_tags b)) present

-- ------------------------------------------------------------------ the changes that are left

module _ (cs : List Change) (i : ℕ) (c : Change) where
  pub cleared_more : (ts : List Tag) → i < length cs
      → cleared (drop i cs) ts ≡ cleared (drop (i + 1) cs) (remove_absent (get_or cs i c).key.now (value_of (get_or cs i c)) ts)
  cleared_more ts h = rw (drop_more cs i c h)

  pub filled_more : (ts : List Tag) → i < length cs
      → filled (drop i cs) ts ≡ filled (drop (i + 1) cs) (set_present (get_or cs i c).key.now (value_of (get_or cs i c)) ts)
  filled_more ts h = rw (drop_more cs i c h)

pub cleared_none : (cs : List Change) (i : ℕ) (ts : List Tag) → length cs ≤ i → cleared (drop i cs) ts ≡ ts
cleared_none cs i ts h = rw (drop_of_length-le cs h)

pub filled_none : (cs : List Change) (i : ℕ) (ts : List Tag) → length cs ≤ i → filled (drop i cs) ts ≡ ts
filled_none cs i ts h = rw (drop_of_length-le cs h)

-- setting takes no tag away, so that there are few enough at each step
filled_longer : (cs : List Change) (ts : List Tag) → Ascending compare_tags ts → length ts ≤ length (filled cs ts)
filled_longer [] ts a = omega arith
filled_longer (c ∷ cs) ts a =
    let more = present_longer c.key.now (value_of c) ts a in
    omega (arith, filled_longer cs (set_present c.key.now (value_of c) ts) (present_kept c.key.now (value_of c) ts a))

pub present_few : (cs : List Change) (i : ℕ) (c : Change) (b : Bytes) → is_some (decode_tags b) ≡ true → i < length cs
    → length (filled (drop i cs) (shown_tags b)) ≤ max_tags
    → length (set_present (get_or cs i c).key.now (value_of (get_or cs i c)) (shown_tags b)) ≤ max_tags
present_few cs i c b d h few =
    let ts = shown_tags b in
    let x = get_or cs i c in
    let us = set_present x.key.now (value_of x) ts in
    omega (arith, rw (filled_more cs i c ts h) at few, filled_longer (drop (i + 1) cs) us (present_kept x.key.now (value_of x) ts (holds b d).valid.order))

pub ruleset clearing = (block, absent_is, absent_shown, cleared_more, cleared_none)

pub ruleset filling = (block, present_is, present_shown, present_few, filled_more, filled_none)
