-- The test of a block, one turn: a tag that was read and those behind it, where one is wrong, is out of order, is right, or is the last.
use mathlib.Core.Path.{◌≡◌, ap, ◌∙◌}
use mathlib.Core.Bool.{Bool, true, false}
use mathlib.Core.List.{List, [], ◌∷◌}
use Prim.Native.Nat.{ℕ, ◌+◌, ◌*◌, ◌^◌, ◌≤◌}
use native.Mathlib.Omega.{arith}
use lib.ListN.{length, drop}
use lib.Dec.{leb}
use borrow.Author.Tests.{leb-true}
use Rattle.std.proofs.lemmas.Bool.{and_parts}
use Rattle.model.specs.Bytes.{Bytes}
use Rattle.model.specs.TagList.{max_key, max_value, tags_length}
use Rattle.model.specs.declared.holdings.TagParts.{TagParts}
use Rattle.text.specs.Blocks.{all_zero}
use Rattle.tag_list.specs.Parts.{parts_end}
use Rattle.tag_list.specs.Tags.{Follow}
use Rattle.tag_list.specs.Test.{before, before_next, tag_ok, tags_ok}

-- whether all are right is whether t and those behind it are, and there is room for them
pub record From (b : Bytes) (all : Bool) (t : TagParts) (ts : List TagParts) : Type 0 where
  pub room : t.key.start + (max_key + max_value) * (1 + length ts) ≤ tags_length
  pub value : t.value.start ≡ t.key.start + t.key.size
  pub near : parts_end t ≤ t.key.start + 2 ^ 33
  pub follow : Follow (parts_end t) ts
  pub rest : all ≡ tags_ok b t.key.start (t ∷ ts)

module _ (b : Bytes) (q : ℕ) {ps : List TagParts} where
  pub none_left : ps ≡ [] → tags_ok b q ps ≡ all_zero (drop q b)
  unfolding tags_ok
  none_left e = rw e

  pub from_first : {t : TagParts} {ts : List TagParts} → ps ≡ t ∷ ts → Follow q ps → q + (max_key + max_value) * length ps ≤ tags_length → From b (tags_ok b q ps) t ts
  unfolding tags_ok Follow
  from_first {t} {ts} e f room =
      let g : Follow q (t ∷ ts) = rw e at f in
      record {
        room = omega (arith, g.0, ap length e, room);
        value = omega (arith, g.0, g.1);
        near = omega (arith, g.0, g.2);
        follow = g.3;
        rest = rw e;
      }

module _ {b : Bytes} {all : Bool} {t : TagParts} {ts : List TagParts} (f : From b all t ts) where
  pub wrong : tag_ok b t ≡ false → all ≡ false
  unfolding tags_ok
  wrong e = f.rest ∙ rw e

  module _ (ok : tag_ok b t ≡ true) where
    pub end_within : parts_end t + (max_key + max_value) * length ts ≤ tags_length
    unfolding tag_ok
    end_within =
        let k = and_parts (leb t.key.size max_key) _ ok in
        let v = and_parts (leb t.value.size max_value) _ k.1 in
        omega (arith, f.room, f.value, leb-true t.key.size max_key k.0, leb-true t.value.size max_value v.0)

    pub last : ts ≡ [] → all ≡ all_zero (drop (parts_end t) b)
    unfolding tags_ok before_next
    last e = f.rest ∙ rw (ok, e)

    module _ {u : TagParts} {us : List TagParts} (e : ts ≡ u ∷ us) where
      pub unordered : before b t u ≡ false → all ≡ false
      unfolding tags_ok before_next
      unordered o = f.rest ∙ rw (ok, e, o)

      pub further : before b t u ≡ true → From b all u us
      unfolding tags_ok before_next Follow
      further o =
          let g : Follow (parts_end t) (u ∷ us) = rw e at f.follow in
          record {
            room = omega (arith, g.0, end_within, ap length e);
            value = omega (arith, g.0, g.1);
            near = omega (arith, g.0, g.2);
            follow = g.3;
            rest = f.rest ∙ rw (ok, e, o);
          }
