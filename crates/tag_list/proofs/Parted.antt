-- A list of tags parted at a key: the tags below it, the tag that has it, if any, and those above; what setting, removing and looking up
-- make of the parts; and that a search finds the place between them.
use mathlib.Core.Path.{◌≡◌, refl, sym, ap, ◌∙◌}
use mathlib.Core.Logic.{◌⊎◌, inl, inr}
use mathlib.Core.List.Memᴰ
use mathlib.Core.List.{List, [], ◌∷◌, ◌++◌}
use Rattle.std.specs.Prelude.{Option, Some, None}
use Prim.Native.Nat.{ℕ, ◌+◌}
use native.Mathlib.Omega.{arith}
use lib.ListN.{length}
use Rattle.std.specs.declared.cmp.Ordering.{Ordering}
use Rattle.std.specs.declared.cmp.Ordering.TheVariants.{Less, Equal, Greater}
use Rattle.model.specs.Bytes.{Bytes, compare_bytes}
use Rattle.model.specs.Statements.{Ascending}
use Rattle.model.specs.Questions.{mapped}
use Rattle.model.specs.TagList.{Tag, tag, compare_tags, look_up, set_tag, remove_tag, tag_bodies}
use Rattle.model.specs.declared.holdings.Part.{Part}
use Rattle.model.specs.TagOutcome.{behind, parts_with, value_part}
use Rattle.text.proofs.Order.{same_bytes_true, same_bytes_false}
use Rattle.text.proofs.Ascending.{ascending_tail}
use Rattle.tag_list.specs.Spot.{spot}
use Rattle.tag_list.proofs.Keys.{KeyBelow, key_below_cons, first_below, same_key, less_differs, greater_differs, look_first, look_past, look_before}
use Rattle.tag_list.proofs.Bodies.{length_tag_bodies}

-- the value of the one tag that is there, if any
abbrev pub value_held : List Tag → Option Bytes
value_held [] = None
value_held (t ∷ ts) = Some t.value

pub record Parted (k : Bytes) (ts : List Tag) : Type 0 where
  pub front : List Tag
  pub held : List Tag
  pub back : List Tag
  pub whole : ts ≡ front ++ (held ++ back)
  pub set : (v : Bytes) → set_tag k v ts ≡ front ++ (tag k v ∷ back)
  pub removed : remove_tag k ts ≡ front ++ back
  pub found : look_up k ts ≡ value_held held
  pub one : (held ≡ []) ⊎ ((v : Bytes) × (held ≡ tag k v ∷ []))

-- where a value stands whose key stands at `start`
abbrev pub part_behind : Bytes → ℕ → Bytes → Part
part_behind k start v = record { start = start + length k; size = length v }

-- the parts, and what a search from place i and byte q gives
pub record PartedAt (k : Bytes) (i q : ℕ) (ts : List Tag) : Type 0 where
  pub parts : Parted k ts
  pub place : (spot k i q ts).place ≡ i + length parts.front
  pub start : (spot k i q ts).start ≡ q + length (tag_bodies parts.front)
  pub value : (spot k i q ts).value ≡ mapped (part_behind k (spot k i q ts).start) (look_up k ts)

pub parted : (k : Bytes) (i q : ℕ) (ts : List Tag) → Ascending compare_tags ts → PartedAt k i q ts
unfolding set_tag remove_tag look_up spot tag_bodies
parted k i q [] a = record {
  parts = record { front = []; held = []; back = []; whole = refl; set = λ v. refl; removed = refl; found = refl; one = inl refl };
  place = omega arith;
  start = omega arith;
  value = refl;
}
parted k i q (t ∷ ts) a = go (compare_bytes k t.key) refl (parted k (i + 1) (behind q t) ts (ascending_tail compare_tags t ts a))
  where
    go : (o : Ordering) → compare_bytes k t.key ≡ o → PartedAt k (i + 1) (behind q t) ts → PartedAt k i q (t ∷ ts)
    go Less e r =
        let none_found = look_before k t ts a e in
        record {
          parts = record {
            front = [];
            held = [];
            back = t ∷ ts;
            whole = refl;
            set = λ v. unfold set_tag in rw e;
            removed = unfold remove_tag in rw e;
            found = none_found;
            one = inl refl;
          };
          place = unfold spot in rw e (omega arith);
          start = unfold spot tag_bodies in rw e (omega arith);
          value = rw none_found (unfold spot in rw e);
        }
    go Equal e r =
        let same = same_key k t.key e in
        let found = look_first k t ts same in
        record {
          parts = record {
            front = [];
            held = t ∷ [];
            back = ts;
            whole = refl;
            set = λ v. unfold set_tag in rw e;
            removed = unfold remove_tag in rw e;
            found = found;
            one = inr (t.value, λ j. record { key = sym same j; value = t.value } ∷ []);
          };
          place = unfold spot in rw e (omega arith);
          start = unfold spot tag_bodies in rw e (omega arith);
          value = rw found (unfold spot in rw (e, same));
        }
    go Greater e r =
        let p = r.parts in
        let past = look_past k t ts (greater_differs k t.key e) in
        record {
          parts = record {
            front = t ∷ p.front;
            held = p.held;
            back = p.back;
            whole = ap (◌∷◌ t) p.whole;
            set = λ v. unfold set_tag in rw e (ap (◌∷◌ t) (p.set v));
            removed = unfold remove_tag in rw e (ap (◌∷◌ t) p.removed);
            found = past ∙ p.found;
            one = p.one;
          };
          place = unfold spot in rw e (omega (arith, r.place));
          start = unfold spot in rw e (omega (arith, r.start, length_tag_bodies t p.front));
          value = rw past (unfold spot in rw e r.value);
        }

-- ------------------------------------------------------------------ where the value stands

parts_below : (k : Bytes) (q : ℕ) (ts : List Tag) → KeyBelow k ts → parts_with q k ts ≡ None
unfolding parts_with
parts_below k q [] b = refl
parts_below k q (t ∷ ts) b =
    rw (same_bytes_false k t.key (less_differs k t.key (b t (Memᴰ.head refl))))
    (parts_below k (behind q t) ts (λ u m. b u (Memᴰ.tail m)))

pub spot_value : (k : Bytes) (i q : ℕ) (ts : List Tag) → Ascending compare_tags ts → mapped value_part (parts_with q k ts) ≡ (spot k i q ts).value
spot_value k i q [] a = unfold parts_with spot in refl
spot_value k i q (t ∷ ts) a =
    go (compare_bytes k t.key) refl (spot_value k (i + 1) (behind q t) ts (ascending_tail compare_tags t ts a))
  where
    go : (o : Ordering) → compare_bytes k t.key ≡ o → mapped value_part (parts_with (behind q t) k ts) ≡ (spot k (i + 1) (behind q t) ts).value
        → mapped value_part (parts_with q k (t ∷ ts)) ≡ (spot k i q (t ∷ ts)).value
    go Less e r = rw (parts_below k q (t ∷ ts) (key_below_cons k t ts e (first_below t ts a))) (unfold spot in rw e)
    go Equal e r = unfold parts_with spot in rw (e, (same_bytes_true k t.key).1 (same_key k t.key e))
    go Greater e r = unfold parts_with spot in rw (e, same_bytes_false k t.key (greater_differs k t.key e)) r
