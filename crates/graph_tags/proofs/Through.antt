-- A record's tags put in by way of three outputs: what the answer of their writer says of the record, and what the change comes to.
use mathlib.Core.Path.{◌≡◌, refl, ap, ◌∙◌}
use mathlib.Core.Logic.{◌≢◌}
use mathlib.Core.Bool.{Bool, true, false, cond, ◌&&◌}
use Rattle.std.specs.Prelude.{Option, Some, None, Ok, Err}
use Rattle.std.proofs.lemmas.Bool.{and_parts}
use Prim.Native.Nat.{◌+◌}
use lib.ListN.{length, take, drop}
use lib.Seq.{take_at}
use Rattle.model.specs.declared.fault.Fault.{Fault}
use Rattle.model.specs.declared.fault.Fault.TheVariants.{WrongBuffer, NotARecord, OutputShort, LongValue}
use Rattle.model.specs.declared.holdings.TagSizes.{TagSizes}
use Rattle.model.specs.Bytes.{Bytes, put}
use Rattle.model.specs.Record.{GraphName}
use Rattle.model.specs.Layout.{decode}
use Rattle.model.specs.Opening.{Given, and_then, or_refuse, is_some, settled, opened, record_in, has_size}
use Rattle.model.specs.Questions.{asked, mapped}
use Rattle.model.specs.Written.{Tags, fits, tags_of, all_within, tag_sizes, tags_written, put_value, output_with_tag}
use Rattle.model.specs.TagList.{max_value, set_graph_name, shown_tags, decode_tags}
use Rattle.model.specs.TagOutcome.{tag_list, short_tags, judged_tags, set_graph_name_in}
use Rattle.tag_list.proofs.Ready.{list_refused, list_given, list_opened}
use Rattle.tag_edits.proofs.Inserting.{judged_long}
use Rattle.graph_tags.specs.Change.{three_changed}

-- what is written of a record's tags to three outputs for values
abbrev pub written : Bytes → Given Tags
written buffer = tags_written buffer max_value max_value max_value

-- the values that were written, if any
abbrev pub values : Given Tags → Tags
values (Err e) = record { name = None; subgraph = None; translation = None }
values (Ok v) = v

-- ------------------------------------------------------------------ the values

taken : (o : Option Bytes) (out : Bytes) → mapped (λ n. take n (put_value o out)) (mapped length o) ≡ o
unfolding put
taken None out = refl
taken (Some t) out = ap (λ (x : Bytes). Some x) (take_at t (drop (0 + length t) out) (length t) refl)

-- each is at the front of its output
module _ (w : Given Tags) (sizes : TagSizes) (e : tag_sizes w ≡ Ok sizes) (out : Bytes) where
  pub name_written : mapped (λ n. take n (output_with_tag (λ v. v.name) w out)) sizes.name ≡ (values w).name
  name_written = go w e
    where
      go : (w : Given Tags) → tag_sizes w ≡ Ok sizes → mapped (λ n. take n (output_with_tag (λ v. v.name) w out)) sizes.name ≡ (values w).name
      go (Err d) e = cc
      go (Ok v) e = let s : sizes.name ≡ mapped length v.name = cc in rw s (taken v.name out)

  pub subgraph_written : mapped (λ n. take n (output_with_tag (λ v. v.subgraph) w out)) sizes.subgraph ≡ (values w).subgraph
  subgraph_written = go w e
    where
      go : (w : Given Tags) → tag_sizes w ≡ Ok sizes → mapped (λ n. take n (output_with_tag (λ v. v.subgraph) w out)) sizes.subgraph ≡ (values w).subgraph
      go (Err d) e = cc
      go (Ok v) e = let s : sizes.subgraph ≡ mapped length v.subgraph = cc in rw s (taken v.subgraph out)

  pub translation_written : mapped (λ n. take n (output_with_tag (λ v. v.translation) w out)) sizes.translation ≡ (values w).translation
  translation_written = go w e
    where
      go : (w : Given Tags) → tag_sizes w ≡ Ok sizes → mapped (λ n. take n (output_with_tag (λ v. v.translation) w out)) sizes.translation ≡ (values w).translation
      go (Err d) e = cc
      go (Ok v) e = let s : sizes.translation ≡ mapped length v.translation = cc in rw s (taken v.translation out)

-- ------------------------------------------------------------------ the change, by what the record opens to

-- opening a record gives no 17
not_short : (buffer : Bytes) → opened (record_in buffer) ≢ Err OutputShort
unfolding opened
not_short buffer e = go (has_size buffer) (decode buffer) e
  where
    go : (t : Bool) (o : Option GraphName) → cond t (or_refuse NotARecord o) (Err WrongBuffer) ≢ Err OutputShort
    go true None e = cc
    go true (Some g) e = cc
    go false o e = cc

module _ (b buffer : Bytes) where
  set_by : set_graph_name_in b buffer
      ≡ and_then (opened (record_in buffer)) λ g. and_then (settled (tag_list b)) λ _. judged_tags (short_tags (tags_of g)) (set_graph_name g (shown_tags b))
  unfolding set_graph_name_in
  set_by = go (opened (record_in buffer)) (is_some (decode_tags b)) refl
    where
      go : (o : Given GraphName) (t : Bool) → is_some (decode_tags b) ≡ t
          → (and_then o λ g. and_then (tag_list b) λ ts. judged_tags (short_tags (tags_of g)) (set_graph_name g ts))
          ≡ and_then o λ g. and_then (settled (tag_list b)) λ _. judged_tags (short_tags (tags_of g)) (set_graph_name g (shown_tags b))
      go (Err e) t d = refl
      go (Ok g) true d = rw (list_given b d)
      go (Ok g) false d = rw (list_refused b d)

  written_by : written buffer ≡ all_within max_value max_value max_value (and_then (opened (record_in buffer)) λ g. Ok (tags_of g))
  unfolding tags_written asked
  written_by = refl

  pub through_refused : (e : Fault) → tag_sizes (written buffer) ≡ Err e → e ≢ OutputShort → set_graph_name_in b buffer ≡ Err e
  through_refused e h n = set_by ∙ go (opened (record_in buffer)) (rw written_by at h)
    where
      short : (g : GraphName) (t : Bool) → tag_sizes (cond t (Ok (tags_of g)) (Err OutputShort)) ≢ Err e
      short g true h = cc
      short g false h = n (cc)

      go : (o : Given GraphName) → tag_sizes (all_within max_value max_value max_value (and_then o λ g. Ok (tags_of g))) ≡ Err e
          → (and_then o λ g. and_then (settled (tag_list b)) λ _. judged_tags (short_tags (tags_of g)) (set_graph_name g (shown_tags b))) ≡ Err e
      go (Err d) h = cc
      go (Ok g) h = absurd (short g (short_tags (tags_of g)) h)

  -- the same of every refusal; the first half is what the prover finds the law by
  pub through_failed : (set_graph_name_in b buffer ≡ set_graph_name_in b buffer)
      × ((e : Fault) → tag_sizes (written buffer) ≡ Err e → e ≢ OutputShort → set_graph_name_in b buffer ≡ Err e)
  through_failed = (refl, through_refused)

  pub through_long : tag_sizes (written buffer) ≡ Err OutputShort → set_graph_name_in b buffer ≡ and_then (settled (tag_list b)) λ _. Err LongValue
  through_long h = set_by ∙ go (opened (record_in buffer)) refl (rw written_by at h)
    where
      short : (g : GraphName) (t : Bool) → tag_sizes (cond t (Ok (tags_of g)) (Err OutputShort)) ≡ Err OutputShort → t ≡ false
      short g true h = cc
      short g false h = refl

      go : (o : Given GraphName) → opened (record_in buffer) ≡ o
          → tag_sizes (all_within max_value max_value max_value (and_then o λ g. Ok (tags_of g))) ≡ Err OutputShort
          → (and_then o λ g. and_then (settled (tag_list b)) λ _. judged_tags (short_tags (tags_of g)) (set_graph_name g (shown_tags b)))
          ≡ and_then (settled (tag_list b)) λ _. Err LongValue
      go (Err d) q h = absurd (not_short buffer (q ∙ cc))
      go (Ok g) q h = rw (judged_long (short_tags (tags_of g)) (set_graph_name g (shown_tags b)) (short g (short_tags (tags_of g)) h))

  module _ (sizes : TagSizes) (e : tag_sizes (written buffer) ≡ Ok sizes) where
    -- the record, all of whose tags are short
    short_record : (g : GraphName) × (opened (record_in buffer) ≡ Ok g) × (short_tags (tags_of g) ≡ true) × (written buffer ≡ Ok (tags_of g))
    short_record = go (opened (record_in buffer)) refl (rw written_by at e)
      where
        short : (g : GraphName) (t : Bool) → tag_sizes (cond t (Ok (tags_of g)) (Err OutputShort)) ≡ Ok sizes → t ≡ true
        short g true h = refl
        short g false h = cc

        go : (o : Given GraphName) → opened (record_in buffer) ≡ o
            → tag_sizes (all_within max_value max_value max_value (and_then o λ g. Ok (tags_of g))) ≡ Ok sizes
            → (g : GraphName) × (opened (record_in buffer) ≡ Ok g) × (short_tags (tags_of g) ≡ true) × (written buffer ≡ Ok (tags_of g))
        go (Err d) q h = cc
        go (Ok g) q h = let s = short g (short_tags (tags_of g)) h in (g, q, s, written_by ∙ rw (q, s))

    pub through_done : set_graph_name_in b buffer
        ≡ and_then (settled (tag_list b)) λ _.
        judged_tags true (three_changed (values (written buffer)).name (values (written buffer)).subgraph (values (written buffer)).translation (shown_tags b))
    unfolding set_graph_name
    through_done = let (g, q, s, w) = short_record in set_by ∙ rw (q, s, w)

    -- the same by values that are taken off the outputs
    pub through_values : settled (tag_list b) ≡ Ok tt → (n s t : Option Bytes)
        → n ≡ (values (written buffer)).name → s ≡ (values (written buffer)).subgraph → t ≡ (values (written buffer)).translation
        → set_graph_name_in b buffer ≡ judged_tags true (three_changed n s t (shown_tags b))
    through_values d n s t x y z = through_done ∙ rw (d, x, y, z)

    pub values_fit : (fits (values (written buffer)).name max_value ≡ true) × (fits (values (written buffer)).subgraph max_value ≡ true)
        × (fits (values (written buffer)).translation max_value ≡ true)
    values_fit =
        let (g, q, s, w) = short_record in
        let v = tags_of g in
        let p = and_parts (fits v.name max_value) (fits v.subgraph max_value && fits v.translation max_value) s in
        let r = and_parts (fits v.subgraph max_value) (fits v.translation max_value) p.1 in
        rw w (p.0, r.0, r.1)

pub ruleset through = (list_opened, name_written, subgraph_written, translation_written, through_failed, through_long, through_done, values_fit)
