-- A walk over the tags of a block: what a block that is a tag list holds, where the tags that are left of it stand, and what the search for a
-- key then knows.
use mathlib.Core.Path.{◌≡◌, refl, sym, ap, ◌∙◌}
use mathlib.Core.Bool.{true}
use mathlib.Core.List.{List, [], ◌∷◌}
use Rattle.std.specs.Prelude.{Option, Some, None, slice_get}
use Rattle.std.specs.Option.{option_map}
use Prim.Native.Nat.{ℕ, zero, suc, ◌+◌, ◌≤◌}
use native.Mathlib.Omega.{arith}
use lib.ListN.{length}
use Rattle.std.specs.declared.cmp.Ordering.TheVariants.{Less, Equal, Greater}
use Rattle.model.specs.Bytes.{Bytes, compare_bytes}
use Rattle.model.specs.Numbers.{number32}
use Rattle.model.specs.Opening.{is_some}
use Rattle.model.specs.TagList.{Tag, max_tags, tag_count_length, tags_length, tag_bodies, tag_contents, keys_after, encode_tags, shown_tags, decode_tags}
use Rattle.model.specs.declared.holdings.TagParts.{TagParts}
use Rattle.model.specs.TagOutcome.{parts_of, behind, parts_at}
use Rattle.model.specs.TagStatements.{ValidTags}
use Rattle.tag_list.specs.Parts.{key_in, parts_end}
use Rattle.tag_list.specs.Tags.{parts_from, all_parts}
use Rattle.tag_list.specs.Spot.{spot, spot_in}
use Rattle.tag_list.proofs.Bodies.{length_tag_bodies}
use Rattle.tag_list.proofs.Standing.{Stands, stands_first, length_contents, contents_within, length_encoded, count_encoded, encoded_stands}
use Rattle.tag_list.proofs.Coding.{tags_decoded, decode_is}
use Rattle.tag_list.proofs.Listing.{parts_stand}

-- b is the block of ts
pub record Holds (b : Bytes) (ts : List Tag) : Type 0 where
  pub valid : ValidTags ts
  pub block : b ≡ encode_tags ts
  pub size : length b ≡ tags_length
  pub count : number32 b 0 ≡ length ts
  pub stands : Stands b tag_count_length (keys_after (length ts)) ts

pub holds : (b : Bytes) → is_some (decode_tags b) ≡ true → Holds b (shown_tags b)
holds b e =
    let d = tags_decoded b (shown_tags b) (decode_is b e) in
    record {
      valid = d.0;
      block = d.1;
      size = ap length d.1 ∙ length_encoded (shown_tags b) d.0;
      count = ap (λ (x : Bytes). number32 x 0) d.1 ∙ count_encoded (shown_tags b) d.0;
      stands = rw (← d.1) at (encoded_stands (shown_tags b) d.0);
    }

-- the same of a block, part by part
module _ (b : Bytes) (e : is_some (decode_tags b) ≡ true) where
  pub list_size : length b ≡ tags_length
  list_size = (holds b e).size

  pub list_count : number32 b 0 ≡ length (shown_tags b)
  list_count = (holds b e).count

  pub list_few : length (shown_tags b) ≤ max_tags
  list_few = (holds b e).valid.count

  pub list_stands : Stands b tag_count_length (keys_after (length (shown_tags b))) (shown_tags b)
  list_stands = (holds b e).stands

-- ------------------------------------------------------------------ the tags one by one

module _ (b : Bytes) (e : is_some (decode_tags b) ≡ true) where
  pub list_parts : parts_from b 0 (keys_after (length (shown_tags b))) (length (shown_tags b)) ≡ all_parts (keys_after (length (shown_tags b))) (shown_tags b)
  list_parts = parts_stand b 0 (keys_after (length (shown_tags b))) (shown_tags b) (list_stands b e)

  pub list_within : length (tag_contents (shown_tags b)) ≤ tags_length
  list_within = contents_within (shown_tags b) (holds b e).valid

pub ruleset held = (list_size, list_count, list_few, list_parts, list_within)

-- the first of the parts of tags is that of the first tag
record FirstOf (t : TagParts) (ps : List TagParts) (q : ℕ) (ts : List Tag) : Type 0 where
  this : Tag
  others : List Tag
  whole : ts ≡ this ∷ others
  first : t ≡ parts_of q this
  rest : ps ≡ all_parts (behind q this) others

first_of : (t : TagParts) (ps : List TagParts) (q : ℕ) (ts : List Tag) → all_parts q ts ≡ t ∷ ps → FirstOf t ps q ts
unfolding all_parts
first_of t ps q [] e = cc
first_of t ps q (u ∷ us) e = record { this = u; others = us; whole = refl; first = cc; rest = cc }

none_of : (q : ℕ) (ts : List Tag) → all_parts q ts ≡ [] → ts ≡ []
unfolding all_parts
none_of q [] e = refl
none_of q (t ∷ ts) e = cc

parts_get : (q : ℕ) (ts : List Tag) (i : ℕ) → slice_get (all_parts q ts) i ≡ parts_at q ts i
unfolding all_parts parts_at
parts_get q [] i = refl
parts_get q (t ∷ ts) zero = refl
parts_get q (t ∷ ts) (suc i) = parts_get (behind q t) ts i

pub parts_place : (q : ℕ) (ts : List Tag) (i : ℕ) (r : Option TagParts) → option_map (λ x. x) r ≡ slice_get (all_parts q ts) i → r ≡ parts_at q ts i
parts_place q ts i None e = e ∙ parts_get q ts i
parts_place q ts i (Some t) e = e ∙ parts_get q ts i

no_bodies : length (tag_bodies []) ≡ 0
unfolding tag_bodies
no_bodies = refl

-- the parts left are of tags whose keys and values stand from byte q on, up to byte `end`
pub record Left (ps : List TagParts) (q end : ℕ) : Type 0 where
  pub tags : List Tag
  pub parts : ps ≡ all_parts q tags
  pub ends : q + length (tag_bodies tags) ≡ end

pub left_all : {ps : List TagParts} (ts : List Tag) → ps ≡ all_parts (keys_after (length ts)) ts → Left ps (keys_after (length ts)) (length (tag_contents ts))
left_all ts e = record { tags = ts; parts = e; ends = omega (arith, length_contents ts) }

module _ {ps : List TagParts} {q end : ℕ} (l : Left ps q end) where
  pub left_none : ps ≡ [] → q ≡ end
  left_none z = omega (arith, l.ends, ap (λ (ts : List Tag). length (tag_bodies ts)) (none_of q l.tags (sym l.parts ∙ z)), no_bodies)

  module _ {t : TagParts} {rest : List TagParts} (e : ps ≡ t ∷ rest) where
    pub left_within : parts_end t ≤ end
    left_within =
        let f = first_of t rest q l.tags (sym l.parts ∙ e) in
        rw f.first (omega (arith, l.ends, ap (λ (ts : List Tag). length (tag_bodies ts)) f.whole, length_tag_bodies f.this f.others))

    pub left_more : {next : ℕ} → next ≡ parts_end t → Left rest next end
    left_more n =
        let f = first_of t rest q l.tags (sym l.parts ∙ e) in
        rw (n, f.first) record {
          tags = f.others;
          parts = f.rest;
          ends = omega (arith, l.ends, ap (λ (ts : List Tag). length (tag_bodies ts)) f.whole, length_tag_bodies f.this f.others);
        }

-- ------------------------------------------------------------------ the search for a key

-- at the first tag: it stops before it or at it, or goes on
module _ (key : Bytes) (i q : ℕ) (t : Tag) (ts : List Tag) where
  spot_less : compare_bytes key t.key ≡ Less → spot key i q (t ∷ ts) ≡ record { place = i; start = q; value = None }
  unfolding spot
  spot_less o = rw o

  spot_equal : compare_bytes key t.key ≡ Equal → spot key i q (t ∷ ts) ≡ record { place = i; start = q; value = Some (parts_of q t).value }
  unfolding spot
  spot_equal o = rw o

  spot_greater : compare_bytes key t.key ≡ Greater → spot key i q (t ∷ ts) ≡ spot key (i + 1) (behind q t) ts
  unfolding spot
  spot_greater o = rw o

-- the tags left, from place i on, in which the key is where it is among all
pub record Ahead (key b : Bytes) (i : ℕ) (ps : List TagParts) : Type 0 where
  pub start : ℕ
  pub left : Left ps start (length (tag_contents (shown_tags b)))
  pub stands : Stands b (keys_after i) start left.tags
  pub counted : i + length left.tags ≡ length (shown_tags b)
  pub found : spot_in key b ≡ spot key i start left.tags

pub ahead_all : (key b : Bytes) → is_some (decode_tags b) ≡ true → {ps : List TagParts} → ps ≡ all_parts (keys_after (length (shown_tags b))) (shown_tags b) → Ahead key b 0 ps
unfolding left_all
ahead_all key b d e = record {
  start = keys_after (length (shown_tags b));
  left = left_all (shown_tags b) e;
  stands = list_stands b d;
  counted = omega arith;
  found = refl;
}

module _ {key b : Bytes} {i : ℕ} {ps : List TagParts} (a : Ahead key b i ps) where
  pub ahead_none : ps ≡ [] → {place end : ℕ} → place ≡ length (shown_tags b) → end ≡ length (tag_contents (shown_tags b))
      → record { place = place; start = end; value = None } ≡ spot_in key b
  unfolding spot
  ahead_none z p e =
      let n = none_of a.start a.left.tags (sym a.left.parts ∙ z) in
      let c : i ≡ length (shown_tags b) = omega (arith, a.counted, ap length n) in
      sym (a.found ∙ rw (n, left_none a.left z, c, p, e))

  module _ {t : TagParts} {rest : List TagParts} (e : ps ≡ t ∷ rest) where
    first : FirstOf t rest a.start a.left.tags
    first = first_of t rest a.start a.left.tags (sym a.left.parts ∙ e)

    key_read : key_in b t ≡ first.this.key
    key_read = ap (λ (p : TagParts). key_in b p) first.first ∙ (stands_first (rw first.whole at a.stands)).key

    pub ahead_less : compare_bytes key (key_in b t) ≡ Less → spot_in key b ≡ record { place = i; start = t.key.start; value = None }
    ahead_less o =
        a.found ∙ ap (spot key i a.start) first.whole ∙ spot_less key i a.start first.this first.others (rw key_read at o)
        ∙ ap (λ (p : TagParts). record { place = i; start = p.key.start; value = None }) (sym first.first)

    pub ahead_equal : compare_bytes key (key_in b t) ≡ Equal → spot_in key b ≡ record { place = i; start = t.key.start; value = Some t.value }
    ahead_equal o =
        a.found ∙ ap (spot key i a.start) first.whole ∙ spot_equal key i a.start first.this first.others (rw key_read at o)
        ∙ ap (λ (p : TagParts). record { place = i; start = p.key.start; value = Some p.value }) (sym first.first)

    pub ahead_greater : compare_bytes key (key_in b t) ≡ Greater → Ahead key b (i + 1) rest
    ahead_greater o =
        let f = first in
        let n = length_tag_bodies f.this f.others in
        let w = ap (λ (ts : List Tag). length (tag_bodies ts)) f.whole in
        let p : keys_after i + 8 ≡ keys_after (i + 1) = omega arith in
        record {
          start = behind a.start f.this;
          left = record { tags = f.others; parts = f.rest; ends = omega (arith, a.left.ends, w, n) };
          stands = rw p at (stands_first (rw f.whole at a.stands)).next;
          counted = omega (arith, a.counted, ap length f.whole);
          found = a.found ∙ ap (spot key i a.start) f.whole ∙ spot_greater key i a.start f.this f.others (rw key_read at o);
        }
