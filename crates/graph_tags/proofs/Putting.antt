-- A record's three tags put into a block: what is counted, removed and set is what the changes come to one after the other.
use mathlib.Core.Path.{◌≡◌, refl, sym, ap, subst, ◌∙◌}
use mathlib.Core.Bool.{Bool, true, false, cond, not, ◌&&◌}
use mathlib.Core.List.{List, [], ◌∷◌, map}
use Rattle.std.specs.Prelude.{Option, Ok, Err}
use Prim.Native.Nat.{ℕ, ◌+◌, ◌≤◌}
use native.Mathlib.Omega.{arith}
use native.Mathlib.Nat.{zero-add}
use lib.ListN.{length, get_or, get_or-map, length-map}
use lib.Dec.{ltb}
use Rattle.std.specs.List.{All}
use Rattle.std.proofs.lemmas.List.Elements.{All-nil, All-cons, All-get_or}
use Rattle.std.proofs.lemmas.List.Recursion.{is_count_by}
use Rattle.model.specs.declared.fault.Fault.TheVariants.{TagsFull}
use borrow.Author.Tests.{ltb-true, ltb-false}
use Rattle.model.specs.Bytes.{Bytes, every_byte}
use Rattle.model.specs.Opening.{is_some}
use Rattle.model.specs.Written.{fits}
use Rattle.model.specs.TagList.{Tag, look_up, max_tags, max_key, max_value, stored_key, encode_tags, shown_tags, decode_tags}
use Rattle.model.specs.TagOutcome.{judged_tags}
use Rattle.model.specs.TagStatements.{ValidTags}
use Rattle.tag_list.proofs.Walk.{holds}
use Rattle.tag_edits.proofs.Outcome.{judged_gives}
use Rattle.tag_edits.proofs.Inserting.{judged_many}
use Rattle.graph_tags.specs.declared.change.Change.{Change}
use Rattle.graph_tags.specs.Change.{HasKey, IsFit, value_of, remove_absent, set_present, cleared, filled, added, gone, pair_of, name_key, subgraph_key, translation_key, three_pairs, three_changed}
use Rattle.graph_tags.proofs.OneChange.{added_by, gone_by, absent_valid}
use Rattle.graph_tags.proofs.ThreeTags.{name_not_subgraph, name_not_translation, subgraph_not_translation, apart_same, length_changed}
use Rattle.graph_tags.proofs.Listed.{listed_is, listed_shown}

abbrev Pairs : Type 0
Pairs = List (Bytes × Option Bytes)

-- the same of changes by what they are alone
abbrev pairs_cleared : Pairs → List Tag → List Tag
pairs_cleared [] ts = ts
pairs_cleared (p ∷ ps) ts = pairs_cleared ps (remove_absent p.0 p.1 ts)

abbrev pairs_filled : Pairs → List Tag → List Tag
pairs_filled [] ts = ts
pairs_filled (p ∷ ps) ts = pairs_filled ps (set_present p.0 p.1 ts)

abbrev pairs_added : Pairs → List Tag → ℕ
pairs_added [] ts = 0
pairs_added (p ∷ ps) ts = added_by p.0 p.1 ts + pairs_added ps ts

abbrev pairs_gone : Pairs → List Tag → ℕ
pairs_gone [] ts = 0
pairs_gone (p ∷ ps) ts = gone_by p.0 p.1 ts + pairs_gone ps ts

cleared_by_pairs : (cs : List Change) (ts : List Tag) → cleared cs ts ≡ pairs_cleared (map pair_of cs) ts
cleared_by_pairs [] ts = refl
cleared_by_pairs (c ∷ cs) ts = cleared_by_pairs cs _

filled_by_pairs : (cs : List Change) (ts : List Tag) → filled cs ts ≡ pairs_filled (map pair_of cs) ts
filled_by_pairs [] ts = refl
filled_by_pairs (c ∷ cs) ts = filled_by_pairs cs _

one_more : (b : Bool) (n : ℕ) → cond b 1 0 + n ≡ cond b (1 + n) n
one_more true n = refl
one_more false n = zero-add n

added_by_pairs : (cs : List Change) (ts : List Tag) → added cs ts ≡ pairs_added (map pair_of cs) ts
added_by_pairs cs ts =
    sym (is_count_by (λ xs. pairs_added (map pair_of xs) ts) (λ c. is_some (value_of c) && not (is_some (look_up c.key.now ts))) refl (λ c xs. one_more _ _) cs)

gone_by_pairs : (cs : List Change) (ts : List Tag) → gone cs ts ≡ pairs_gone (map pair_of cs) ts
gone_by_pairs cs ts =
    sym (is_count_by (λ xs. pairs_gone (map pair_of xs) ts) (λ c. not (is_some (value_of c)) && is_some (look_up c.key.now ts)) refl (λ c xs. one_more _ _) cs)

-- ------------------------------------------------------------------ the three

pub name_stored : stored_key name_key ≡ true
unfolding stored_key every_byte
name_stored = refl

pub subgraph_stored : stored_key subgraph_key ≡ true
unfolding stored_key every_byte
subgraph_stored = refl

pub translation_stored : stored_key translation_key ≡ true
unfolding stored_key every_byte
translation_stored = refl

cleared_valid : (ps : Pairs) (ts : List Tag) → ValidTags ts → ValidTags (pairs_cleared ps ts)
cleared_valid [] ts v = v
cleared_valid (p ∷ ps) ts v = cleared_valid ps (remove_absent p.0 p.1 ts) (absent_valid p.0 p.1 ts v)

module _ (cs : List Change) (n s t : Option Bytes) (e : map pair_of cs ≡ three_pairs n s t) where
  -- what holds of each of the three
  three_all : (P : Bytes × Option Bytes → Type 0) → P (name_key, n) → P (subgraph_key, s) → P (translation_key, t) → All (λ c. P (pair_of c)) cs
  three_all P f g h k d l =
      let all : All P (three_pairs n s t) =
      All-cons P (name_key, n) ((subgraph_key, s) ∷ (translation_key, t) ∷ []) f
      (All-cons P (subgraph_key, s) ((translation_key, t) ∷ []) g (All-cons P (translation_key, t) [] h (All-nil P))) in
      let same : get_or (three_pairs n s t) k (pair_of d) ≡ pair_of (get_or cs k d) = rw e at (get_or-map pair_of cs k d) in
      subst P same (All-get_or P (three_pairs n s t) k (pair_of d) (omega (arith, ap length e, length-map cs pair_of)) all)

  -- a short key, and what may be stored
  pub three_short : All HasKey cs
  three_short = three_all (λ p. length p.0 ≤ max_key) (omega arith) (omega arith) (omega arith)

  pub three_fit : fits n max_value ≡ true → fits s max_value ≡ true → fits t max_value ≡ true → All IsFit cs
  three_fit f g h =
      three_all (λ p. (stored_key p.0 ≡ true) × (fits p.1 max_value ≡ true)) (name_stored, f) (subgraph_stored, g) (translation_stored, h)

  -- whichever changes come to the same three, the same is removed
  pub cleared_same : (ts : List Tag) (ds : List Change) → map pair_of ds ≡ three_pairs n s t → encode_tags (cleared ds ts) ≡ encode_tags (cleared cs ts)
  cleared_same ts ds f = rw (cleared_by_pairs ds, cleared_by_pairs cs, e, f)

  module _ (b : Bytes) (d : is_some (decode_tags b) ≡ true) where
    abbrev ts : List Tag
    ts = shown_tags b

    three_same : three_changed n s t ts ≡ filled cs (cleared cs ts)
    three_same =
        apart_same name_key subgraph_key translation_key name_not_subgraph name_not_translation subgraph_not_translation n s t ts (holds b d).valid.order
        ∙ sym (rw (filled_by_pairs cs, cleared_by_pairs cs, e))

    counted : length (three_changed n s t ts) + gone cs ts ≡ length ts + added cs ts
    counted =
        let l = length_changed name_key subgraph_key translation_key name_not_subgraph name_not_translation subgraph_not_translation n s t ts (holds b d).valid.order in
        rw (gone_by_pairs cs, added_by_pairs cs, e) (omega (arith, l))

    -- too many in the end, or not, by the list that is read off the block
    module _ (us : List Tag) (u : us ≡ ts) where
      pub three_full : ltb (max_tags + gone cs us) (length us + added cs us) ≡ true → judged_tags true (three_changed n s t ts) ≡ Err TagsFull
      three_full h =
          let l = ltb-true (max_tags + gone cs ts) (length ts + added cs ts) (rw u at h) in
          judged_many true (three_changed n s t ts) refl (omega (arith, counted))

      pub three_few : ltb (max_tags + gone cs us) (length us + added cs us) ≡ false → length (filled cs (cleared cs ts)) ≤ max_tags
      three_few h =
          let l = ltb-false (max_tags + gone cs ts) (length ts + added cs ts) (rw u at h) in
          let k : length (three_changed n s t ts) ≤ max_tags = omega (arith, counted) in
          rw three_same at k

    pub three_judged : length (filled cs (cleared cs ts)) ≤ max_tags → judged_tags true (three_changed n s t ts) ≡ Ok (filled cs (cleared cs ts))
    three_judged few = rw three_same (judged_gives true (filled cs (cleared cs ts)) refl few)

    -- the block once the absent ones are removed
    valid_cleared : ValidTags (cleared cs ts)
    valid_cleared = rw (cleared_by_pairs cs) (cleared_valid (map pair_of cs) ts (holds b d).valid)

    pub cleared_is : is_some (decode_tags (encode_tags (cleared cs ts))) ≡ true
    cleared_is = listed_is (cleared cs ts) valid_cleared

    pub cleared_shown : shown_tags (encode_tags (cleared cs ts)) ≡ cleared cs ts
    cleared_shown = listed_shown (cleared cs ts) valid_cleared
