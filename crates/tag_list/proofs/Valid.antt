-- How many tags there are after setting and removing, and that both keep a list within the sizes; the test of a tag list says that it is one.
use mathlib.Core.Path.{◌≡◌, refl, ap, ◌∙◌}
use mathlib.Core.Logic.{◌⊎◌, inl, inr, ⊎_elim, ◌↔◌}
use mathlib.Core.Bool.{true, cond, ◌&&◌}
use mathlib.Core.List.Memᴰ
use mathlib.Core.List.{List, [], ◌∷◌, ◌++◌, Memᴰ}
use Prim.Native.Nat.{suc, ◌+◌, ◌≤◌}
use native.Mathlib.Omega.{arith}
use lib.ListN.{length, length-append}
use lib.Dec.{leb}
use borrow.Author.Tests.{leb-true, le-leb}
use Rattle.std.proofs.lemmas.Bool.{and_parts}
use Rattle.model.specs.Bytes.{Bytes}
use Rattle.model.specs.Record.{ascends}
use Rattle.model.specs.Opening.{is_some}
use Rattle.model.specs.Statements.{Ascending}
use Rattle.model.specs.TagList.{Tag, tag, compare_tags, look_up, set_tag, remove_tag, max_tags, max_value, stored_key, all_stored, is_tag_list}
use Rattle.model.specs.TagStatements.{ValidTags}
use Rattle.text.proofs.Ascending.{ascends_true}
use Rattle.tag_list.proofs.Map.{set_member, set_kept, remove_member, remove_kept}
use Rattle.tag_list.proofs.Parted.{Parted, parted, value_held}

-- ------------------------------------------------------------------ counts

pub length_parted : {k : Bytes} {ts : List Tag} (p : Parted k ts) → length ts ≡ length p.front + (length p.held + length p.back)
length_parted p = ap length p.whole ∙ omega (arith, length-append p.front (p.held ++ p.back), length-append p.held p.back)

pub length_set : (k v : Bytes) (ts : List Tag) → Ascending compare_tags ts
    → length (set_tag k v ts) ≡ cond (is_some (look_up k ts)) (length ts) (length ts + 1)
length_set k v ts a = let p = (parted k 0 0 ts a).parts in go p (ap length (p.set v) ∙ length-append p.front (tag k v ∷ p.back)) p.one
  where
    go : (p : Parted k ts) → length (set_tag k v ts) ≡ length p.front + suc (length p.back)
        → (p.held ≡ []) ⊎ ((w : Bytes) × (p.held ≡ tag k w ∷ [])) → length (set_tag k v ts) ≡ cond (is_some (look_up k ts)) (length ts) (length ts + 1)
    go p size (inl e) = rw (p.found ∙ ap value_held e) (omega (arith, length_parted p, ap length e))
    go p size (inr (w, e)) = rw (p.found ∙ ap value_held e) (omega (arith, length_parted p, ap length e))

pub length_remove : (k : Bytes) (ts : List Tag) → Ascending compare_tags ts
    → length (remove_tag k ts) + cond (is_some (look_up k ts)) 1 0 ≡ length ts
length_remove k ts a = let p = (parted k 0 0 ts a).parts in go p (ap length p.removed ∙ length-append p.front p.back) p.one
  where
    go : (p : Parted k ts) → length (remove_tag k ts) ≡ length p.front + length p.back
        → (p.held ≡ []) ⊎ ((w : Bytes) × (p.held ≡ tag k w ∷ [])) → length (remove_tag k ts) + cond (is_some (look_up k ts)) 1 0 ≡ length ts
    go p size (inl e) = rw (p.found ∙ ap value_held e) (omega (arith, length_parted p, ap length e))
    go p size (inr (w, e)) = rw (p.found ∙ ap value_held e) (omega (arith, length_parted p, ap length e))

-- ------------------------------------------------------------------ sizes

pub set_valid : (k v : Bytes) (ts : List Tag) → ValidTags ts → stored_key k ≡ true → length v ≤ max_value → length (set_tag k v ts) ≤ max_tags
    → ValidTags (set_tag k v ts)
set_valid k v ts h stored short few = record {
  count = few;
  order = set_kept k v ts h.order;
  keys = λ t m. ⊎_elim (λ (e : t ≡ tag k v). rw e stored) (h.keys t) (set_member k v ts t m);
  values = λ t m. ⊎_elim (λ (e : t ≡ tag k v). rw e short) (h.values t) (set_member k v ts t m);
}

pub remove_valid : (k : Bytes) (ts : List Tag) → ValidTags ts → ValidTags (remove_tag k ts)
remove_valid k ts h = record {
  count = omega (arith, h.count, length_remove k ts h.order);
  order = remove_kept k ts h.order;
  keys = λ t m. h.keys t (remove_member k ts t m);
  values = λ t m. h.values t (remove_member k ts t m);
}

-- ------------------------------------------------------------------ the test

-- a tag fit to be stored
abbrev Stored : Tag → Type 0
Stored t = (stored_key t.key ≡ true) × (length t.value ≤ max_value)

all_stored_true : (ts : List Tag) → all_stored ts ≡ true ↔ ((t : Tag) → Memᴰ t ts → Stored t)
unfolding all_stored
all_stored_true [] = (λ e t m. absurd (Memᴰ.not-nil m), λ h. refl)
all_stored_true (u ∷ us) = (
  λ e t m.
      let p = and_parts _ _ e in
      let q = and_parts _ _ p.1 in
      ⊎_elim
      (λ (d : t ≡ u). rw d (p.0, leb-true (length u.value) max_value q.0))
      ((all_stored_true us).0 q.1 t)
      (Memᴰ.cases_cons m),
  λ h.
      let s = h u (Memᴰ.head refl) in
      rw (s.0, le-leb (length u.value) max_value s.1) ((all_stored_true us).1 (λ t m. h t (Memᴰ.tail m))),
)

pub valid_true : (ts : List Tag) → is_tag_list ts ≡ true ↔ ValidTags ts
unfolding is_tag_list
valid_true ts = (
  λ e.
      let p = and_parts (leb (length ts) max_tags) (ascends compare_tags ts && all_stored ts) e in
      let q = and_parts (ascends compare_tags ts) (all_stored ts) p.1 in
      let stored = (all_stored_true ts).0 q.1 in
      record {
        count = leb-true (length ts) max_tags p.0;
        order = (ascends_true compare_tags ts).0 q.0;
        keys = λ t m. (stored t m).0;
        values = λ t m. (stored t m).1;
      },
  λ h.
      rw (le-leb (length ts) max_tags h.count, (ascends_true compare_tags ts).1 h.order)
      ((all_stored_true ts).1 (λ t m. (h.keys t m, h.values t m))),
)
