-- The table of tags: two letters have a place of their own, and its entry tells whether the tag was seen.
use mathlib.Core.Path.{◌≡◌, refl, sym, ap, ◌∙◌}
use mathlib.Core.Logic.{◌⊎◌, inl, inr, ⊎_elim}
use mathlib.Core.Bool.{Bool, true, false, ◌&&◌, ◌||◌, not, false≢true}
use mathlib.Core.List.{List, [], ◌∷◌}
use Prim.Native.Nat.{ℕ, ◌+◌, ◌≤◌, ◌<◌}
use native.Mathlib.Omega.{arith}
use lib.Dec.{leb}
use lib.ListN.{length, get_or, take, set, replicate, length-set, get_or-replicate}
use lib.Seq.{get_or-set_same, get_or-set_other}
use borrow.Author.Tests.{leb-true, lt-ltb, le-ltb}
use Rattle.std.proofs.lemmas.Bool.{and_parts}
use Rattle.model.specs.Bytes.{Bytes, same_bytes}
use Rattle.model.specs.Strict.{range, letter, has_tag, fine_field}
use Rattle.text.proofs.Tests.{either_true}
use Rattle.text.proofs.Order.{same_bytes_true}
use Rattle.strict.specs.Tag.{letter_place, tag_place, field_place}

-- the place of a letter, large or small, tells the letter
abbrev pub Placed : ℕ → ℕ → Type 0
Placed x p = ((p < 26) × (x ≡ p + 65)) ⊎ ((26 ≤ p) × (p < 52) × (x ≡ p + 71))

pub letter_placed : (x : ℕ) → letter x ≡ true → Placed x (letter_place x)
letter_placed x e = ⊎_elim large small ((either_true (range 65 90 x) (range 97 122 x)).0 e)
  where
    large : range 65 90 x ≡ true → Placed x (letter_place x)
    large h =
        let p = and_parts (leb 65 x) (leb x 90) h in
        let l = leb-true 65 x p.0 in
        let u = leb-true x 90 p.1 in
        inl (rw (lt-ltb x 97 (omega arith)) (omega arith))

    small : range 97 122 x ≡ true → Placed x (letter_place x)
    small h =
        let p = and_parts (leb 97 x) (leb x 122) h in
        let l = leb-true 97 x p.0 in
        let u = leb-true x 122 p.1 in
        inr (rw (le-ltb x 97 l) (omega arith))

pub place_below : (x p : ℕ) → Placed x p → p < 52
place_below x p = ⊎_elim (λ h. omega arith) (λ h. h.1)

same_letter : (x y p q : ℕ) → Placed x p → Placed y q → p ≡ q → x ≡ y
same_letter x y p q a b e =
    ⊎_elim (λ u. ⊎_elim (λ v. omega arith) (λ v. absurd (omega arith)) b) (λ u. ⊎_elim (λ v. absurd (omega arith)) (λ v. omega arith) b) a

module _ (x y : ℕ) (lx : letter x ≡ true) (ly : letter y ≡ true) where
  pub tag_below : tag_place x y < 2704
  tag_below = omega (arith, place_below x (letter_place x) (letter_placed x lx), place_below y (letter_place y) (letter_placed y ly))

  -- two tags at one place are the same
  same_tag : (u v : ℕ) → letter u ≡ true → letter v ≡ true → tag_place x y ≡ tag_place u v → (x ∷ y ∷ []) ≡ (u ∷ v ∷ [])
  same_tag u v lu lv e =
      let p = letter_placed x lx in
      let q = letter_placed y ly in
      let r = letter_placed u lu in
      let s = letter_placed v lv in
      let py = place_below y (letter_place y) q in
      let pv = place_below v (letter_place v) s in
      let f : x ≡ u = same_letter x u (letter_place x) (letter_place u) p r (omega arith) in
      let g : y ≡ v = same_letter y v (letter_place y) (letter_place v) q s (omega arith) in
      cc

-- the table tells of each tag of two letters whether it is one of `tags`
pub record Marked (seen : List Bool) (tags : List Bytes) : Type 0 where
  pub whole : length seen ≡ 2704
  pub entry : (x y : ℕ) → letter x ≡ true → letter y ≡ true → get_or seen (tag_place x y) false ≡ has_tag (x ∷ y ∷ []) tags

pub marked_none : (seen : List Bool) → seen ≡ replicate 2704 false → Marked seen []
marked_none seen e = record {
  whole = ap length e;
  entry = λ x y lx ly. rw e (get_or-replicate 2704 (tag_place x y) false false (tag_below x y lx ly));
}

-- one tag more
pub marked_more : (seen : List Bool) (tags : List Bytes) (x y : ℕ) → letter x ≡ true → letter y ≡ true → Marked seen tags
    → Marked (set seen (tag_place x y) true) ((x ∷ y ∷ []) ∷ tags)
marked_more seen tags x y lx ly m = record {
  whole = length-set seen (tag_place x y) true ∙ m.whole;
  entry = λ u v lu lv. go u v lu lv (same_bytes (u ∷ v ∷ []) (x ∷ y ∷ [])) refl;
}
  where
    go : (u v : ℕ) → letter u ≡ true → letter v ≡ true → (t : Bool) → same_bytes (u ∷ v ∷ []) (x ∷ y ∷ []) ≡ t
        → get_or (set seen (tag_place x y) true) (tag_place u v) false ≡ t || has_tag (u ∷ v ∷ []) tags
    go u v lu lv true e =
        let same = (same_bytes_true (u ∷ v ∷ []) (x ∷ y ∷ [])).0 e in
        let p : u ≡ x = cc in
        let q : v ≡ y = cc in
        rw (p, q) (get_or-set_same seen (tag_place x y) true false (rw m.whole (tag_below x y lx ly)))
    go u v lu lv false e =
        get_or-set_other seen (tag_place x y) (tag_place u v) true false
        (λ p. false≢true (sym e ∙ (same_bytes_true (u ∷ v ∷ []) (x ∷ y ∷ [])).1 (same_tag u v lu lv x y lx ly p)))
        ∙ m.entry u v lu lv

-- what a typed field begins with
pub record Begins (f : Bytes) : Type 0 where
  pub long : 5 ≤ length f
  pub first : letter (get_or f 0 0) ≡ true
  pub second : letter (get_or f 1 0) ≡ true

pub fine_begins : (f : Bytes) → fine_field f ≡ true → Begins f
unfolding fine_field
fine_begins f e =
    let p = and_parts _ _ e in
    let q = and_parts _ _ p.0 in
    let r = and_parts _ _ q.0 in
    let s = and_parts _ _ r.0 in
    let t = and_parts (leb 5 (length f)) (letter (get_or f 0 0)) s.0 in
    record { long = leb-true 5 (length f) t.0; first = t.1; second = s.1 }

pub tag_of : (f : Bytes) → 5 ≤ length f → take 2 f ≡ get_or f 0 0 ∷ get_or f 1 0 ∷ []
tag_of [] h = absurd (omega arith)
tag_of (x ∷ []) h = absurd (omega arith)
tag_of (x ∷ y ∷ f) h = refl

-- a typed field whose tag the table does not have has a new tag
pub new_tag : (f : Bytes) (seen : List Bool) (tags : List Bytes) → Marked seen tags
    → fine_field f && not (get_or seen (field_place f) false) ≡ fine_field f && not (has_tag (take 2 f) tags)
new_tag f seen tags m = go (fine_field f) refl
  where
    go : (t : Bool) → fine_field f ≡ t → t && not (get_or seen (field_place f) false) ≡ t && not (has_tag (take 2 f) tags)
    go true e = let b = fine_begins f e in rw (m.entry (get_or f 0 0) (get_or f 1 0) b.first b.second, tag_of f b.long)
    go false e = refl

-- the table after a field with a new tag
pub marked_field : (f : Bytes) (seen : List Bool) (tags : List Bytes) → fine_field f ≡ true → Marked seen tags
    → Marked (set seen (field_place f) true) (take 2 f ∷ tags)
marked_field f seen tags e m =
    let b = fine_begins f e in
    rw (tag_of f b.long) (marked_more seen tags (get_or f 0 0) (get_or f 1 0) b.first b.second m)
