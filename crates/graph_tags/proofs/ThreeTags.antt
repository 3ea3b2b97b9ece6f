-- A record's three tags put in at once: it comes to the same to remove the absent ones first and then to set the present ones; what each
-- key gives then, how many tags there are, and that they stay within the sizes.
use mathlib.Core.Path.{◌≡◌, refl, sym, ◌∙◌}
use mathlib.Core.Logic.{◌⊎◌, inl, inr, ◌≢◌}
use mathlib.Core.Bool.{true, ◌&&◌}
use mathlib.Core.List.{List}
use Rattle.std.specs.Prelude.{Option}
use Rattle.std.proofs.lemmas.Bool.{and_parts}
use Prim.Native.Nat.{◌+◌, ◌≤◌}
use native.Mathlib.Omega.{arith}
use lib.ListN.{length}
use Rattle.model.specs.Bytes.{Bytes, same_bytes, compare_bytes, compare_numbers, every_byte}
use Rattle.model.specs.Record.{GraphName}
use Rattle.model.specs.Written.{tags_of, fits}
use Rattle.model.specs.Statements.{Ascending}
use Rattle.model.specs.TagList.{Tag, compare_tags, look_up, set_or_remove, set_graph_name, max_tags, max_value, stored_key}
use Rattle.model.specs.TagOutcome.{short_tags}
use Rattle.model.specs.TagStatements.{ValidTags}
use Rattle.graph_tags.specs.Change.{remove_absent, set_present, name_key, subgraph_key, translation_key}
use Rattle.tag_list.proofs.Map.{same_lists}
use Rattle.tag_edits.proofs.Outcome.{differ}
use Rattle.graph_tags.proofs.OneChange.{added_by, gone_by, same_or_not, change_kept, absent_kept, present_kept}
use Rattle.graph_tags.proofs.OneChange.{change_same, absent_same, present_same, change_other, absent_other, present_other}
use Rattle.graph_tags.proofs.OneChange.{length_change, added_same, gone_same, present_longer, absent_valid, present_valid}

-- ------------------------------------------------------------------ three tags of different keys

-- one after the other, and the absent ones first
abbrev pub changed : (a b c : Bytes) (n s t : Option Bytes) → List Tag → List Tag
changed a b c n s t ts = set_or_remove c t (set_or_remove b s (set_or_remove a n ts))

abbrev pub cleared : (a b c : Bytes) (n s t : Option Bytes) → List Tag → List Tag
cleared a b c n s t ts = remove_absent c t (remove_absent b s (remove_absent a n ts))

abbrev pub filled : (a b c : Bytes) (n s t : Option Bytes) → List Tag → List Tag
filled a b c n s t ts = set_present c t (set_present b s (set_present a n ts))

module _ (a b c : Bytes) (ab : a ≢ b) (ac : a ≢ c) (bc : b ≢ c) (n s t : Option Bytes) (ts : List Tag) (asc : Ascending compare_tags ts) where
  -- what each key gives, one after the other or the absent ones first
  pub first_looks : look_up a (changed a b c n s t ts) ≡ n
  first_looks = change_other c a ac t _ ∙ change_other b a ab s _ ∙ change_same a n ts asc

  pub second_looks : look_up b (changed a b c n s t ts) ≡ s
  second_looks = change_other c b bc t _ ∙ change_same b s _ (change_kept a n ts asc)

  pub third_looks : look_up c (changed a b c n s t ts) ≡ t
  third_looks = change_same c t _ (change_kept b s _ (change_kept a n ts asc))

  pub other_looks : (j : Bytes) → j ≢ a → j ≢ b → j ≢ c → look_up j (changed a b c n s t ts) ≡ look_up j ts
  other_looks j x y z = change_other c j z t _ ∙ change_other b j y s _ ∙ change_other a j x n ts

  first_looks' : look_up a (filled a b c n s t (cleared a b c n s t ts)) ≡ n
  first_looks' =
      present_other c a ac t _ ∙ present_other b a ab s _
      ∙ present_same a n _ (λ e. absent_other c a ac t _ ∙ absent_other b a ab s _ ∙ absent_same a n ts asc e)

  second_looks' : look_up b (filled a b c n s t (cleared a b c n s t ts)) ≡ s
  second_looks' =
      present_other c b bc t _
      ∙ present_same b s _ (λ e. present_other a b (λ d. ab (sym d)) n _ ∙ absent_other c b bc t _ ∙ absent_same b s _ (absent_kept a n ts asc) e)

  third_looks' : look_up c (filled a b c n s t (cleared a b c n s t ts)) ≡ t
  third_looks' =
      present_same c t _ (λ e.
      present_other b c (λ d. bc (sym d)) s _ ∙ present_other a c (λ d. ac (sym d)) n _
      ∙ absent_same c t _ (absent_kept b s _ (absent_kept a n ts asc)) e)

  other_looks' : (j : Bytes) → j ≢ a → j ≢ b → j ≢ c → look_up j (filled a b c n s t (cleared a b c n s t ts)) ≡ look_up j ts
  other_looks' j x y z =
      present_other c j z t _ ∙ present_other b j y s _ ∙ present_other a j x n _
      ∙ absent_other c j z t _ ∙ absent_other b j y s _ ∙ absent_other a j x n ts

  -- every key gives the same
  same_looks : (j : Bytes) → look_up j (changed a b c n s t ts) ≡ look_up j (filled a b c n s t (cleared a b c n s t ts))
  same_looks j = go (same_or_not j a) (same_or_not j b) (same_or_not j c)
    where
      go : (j ≡ a) ⊎ (j ≢ a) → (j ≡ b) ⊎ (j ≢ b) → (j ≡ c) ⊎ (j ≢ c)
          → look_up j (changed a b c n s t ts) ≡ look_up j (filled a b c n s t (cleared a b c n s t ts))
      go (inl e) y z = rw e (first_looks ∙ sym (first_looks'))
      go (inr x) (inl e) z = rw e (second_looks ∙ sym (second_looks'))
      go (inr x) (inr y) (inl e) = rw e (third_looks ∙ sym (third_looks'))
      go (inr x) (inr y) (inr z) = other_looks j x y z ∙ sym (other_looks' j x y z)

  pub apart_same : changed a b c n s t ts ≡ filled a b c n s t (cleared a b c n s t ts)
  apart_same =
      same_lists (changed a b c n s t ts) (filled a b c n s t (cleared a b c n s t ts))
      (change_kept c t _ (change_kept b s _ (change_kept a n ts asc)))
      (present_kept c t _ (present_kept b s _ (present_kept a n _ (absent_kept c t _ (absent_kept b s _ (absent_kept a n ts asc))))))
      same_looks

  pub length_changed : length (changed a b c n s t ts) + (gone_by a n ts + (gone_by b s ts + gone_by c t ts))
      ≡ length ts + (added_by a n ts + (added_by b s ts + added_by c t ts))
  length_changed =
      let us = set_or_remove a n ts in
      let vs = set_or_remove b s us in
      let first = change_kept a n ts asc in
      let at_b = change_other a b (λ e. ab (sym e)) n ts in
      let at_c = change_other b c (λ e. bc (sym e)) s us ∙ change_other a c (λ e. ac (sym e)) n ts in
      omega (
        arith,
        length_change a n ts asc,
        length_change b s us first,
        length_change c t vs (change_kept b s us first),
        added_same b s us ts at_b,
        gone_same b s us ts at_b,
        added_same c t vs ts at_c,
        gone_same c t vs ts at_c,
      )

  -- within the sizes, where the values are short and the tags not too many in the end: they are no more before
  pub changed_valid : ValidTags ts → stored_key a ≡ true → stored_key b ≡ true → stored_key c ≡ true
      → fits n max_value && (fits s max_value && fits t max_value) ≡ true → length (changed a b c n s t ts) ≤ max_tags → ValidTags (changed a b c n s t ts)
  changed_valid h i j k short few =
      let p = and_parts (fits n max_value) (fits s max_value && fits t max_value) short in
      let q = and_parts (fits s max_value) (fits t max_value) p.1 in
      let us = cleared a b c n s t ts in
      let us_valid : ValidTags us = absent_valid c t _ (absent_valid b s _ (absent_valid a n ts h)) in
      let vs = set_present a n us in
      let vs_kept = present_kept a n us us_valid.order in
      let ws = set_present b s vs in
      let end : length (set_present c t ws) ≤ max_tags = rw apart_same at few in
      let to_end = present_longer c t ws (present_kept b s vs vs_kept) in
      let to_ws = present_longer b s vs vs_kept in
      let vs_valid = present_valid a n us us_valid i p.0 (omega arith) in
      let ws_valid = present_valid b s vs vs_valid j q.0 (omega arith) in
      rw apart_same (present_valid c t ws ws_valid k q.1 end)

-- ------------------------------------------------------------------ a record's tags

pub name_not_subgraph : name_key ≢ subgraph_key
unfolding same_bytes compare_bytes compare_numbers
name_not_subgraph = differ name_key subgraph_key refl

pub name_not_translation : name_key ≢ translation_key
unfolding same_bytes compare_bytes compare_numbers
name_not_translation = differ name_key translation_key refl

pub subgraph_not_translation : subgraph_key ≢ translation_key
unfolding same_bytes compare_bytes compare_numbers
subgraph_not_translation = differ subgraph_key translation_key refl

module _ (g : GraphName) (ts : List Tag) (asc : Ascending compare_tags ts) where
  pub three_valid : ValidTags ts → short_tags (tags_of g) ≡ true → length (set_graph_name g ts) ≤ max_tags → ValidTags (set_graph_name g ts)
  unfolding set_graph_name stored_key every_byte
  three_valid h short few =
      changed_valid name_key subgraph_key translation_key name_not_subgraph name_not_translation subgraph_not_translation
      (tags_of g).name (tags_of g).subgraph (tags_of g).translation ts asc h refl refl refl short few
