-- A field's effect is what it says by itself, taken into the graph name so far: one law each for typed fields, `@` lines and relations of tags.
use Rattle.std.proofs.Common.{◌≡◌, refl, Bool, true, false, cond, ◌&&◌, List, [], ◌∷◌, ℕ, ◌≤◌, ◌<◌, length, drop, get_or, eqb, arith, eqb-true, eq-eqb}
use Rattle.std.proofs.lemmas.Bool.{and_parts}
use Rattle.std.specs.Prelude.{Option, Some, None}
use Rattle.std.specs.Cmp.{both_ways}
use Rattle.model.specs.declared.Kind.{Kind}
use Rattle.model.specs.declared.Kind.TheVariants.{Subgraph, Translation}
use Rattle.model.specs.Text.{text}
use Rattle.model.specs.Bytes.{Bytes, compare_numbers, compare_bytes, same_bytes, is_empty, split}
use Rattle.model.specs.Record.{Pair, GraphName, with_name}
use Rattle.model.specs.Reading.{or_wrong, two_parts, add_to, one_name, typed_field, is_gaf_head, gaf_line}
use Rattle.text.proofs.Order.{same_bytes_refl, same_bytes_true}
use Rattle.fields.specs.Fields.{FieldMeaning, apply, related_by, one_named, fault, named, classify_string, classify_typed, classify_gaf}

-- a string of two bytes is compared byte by byte
pub two_bytes : (s : Bytes) (x y : ℕ) → 2 ≤ length s → length s < 3 → same_bytes s (x ∷ y ∷ []) ≡ eqb (get_or s 0 0) x && eqb (get_or s 1 0) y
two_bytes [] x y h k = absurd (omega arith)
two_bytes (a ∷ []) x y h k = absurd (omega arith)
two_bytes (a ∷ b ∷ []) x y h k = both_ways _ _
    (λ e.
    let l : ◌≡◌ {A = Bytes} (a ∷ b ∷ []) (x ∷ y ∷ []) = (same_bytes_true (a ∷ b ∷ []) (x ∷ y ∷ [])).0 e in
    let p : a ≡ x = cc in
    let q : b ≡ y = cc in
    rw (eq-eqb a x p, eq-eqb b y q))
    (λ e.
    let w = and_parts (eqb a x) (eqb b y) e in
    rw (eqb-true a x w.0, eqb-true b y w.1) (same_bytes_refl (x ∷ y ∷ [])))
two_bytes (a ∷ b ∷ c ∷ s) x y h k = absurd (omega arith)

-- a string that begins `@` is compared by what stands behind that
same_behind : (s t : Bytes) → get_or s 0 0 ≡ 64 → same_bytes s (64 ∷ t) ≡ same_bytes (drop 1 s) t
unfolding same_bytes compare_bytes compare_numbers
same_behind [] t e = let z : ◌≡◌ {A = ℕ} 0 1 = omega arith in cc
same_behind (x ∷ s) t e = rw e

module _ (g : GraphName) where
  apply_cond : (t : Bool) (f e : FieldMeaning) → apply g (cond t f e) ≡ cond t (apply g f) (apply g e)
  apply_cond true f e = refl
  apply_cond false f e = refl

  -- a relation of either kind, whatever its separator: also that of a tag
  pub relation_classified : (k : Kind) (n : ℕ) (p : Option Pair) → or_wrong n (add_to k g p) ≡ apply g (related_by k n p)
  relation_classified k n None = refl
  relation_classified k n (Some p) = refl

  name_classified : (ws : List Bytes) → or_wrong 6 (one_name g ws) ≡ apply g (one_named ws)
  name_classified [] = refl
  name_classified (w ∷ []) = go (is_empty w)
    where
      go : (t : Bool) → or_wrong 6 (cond t None (Some (with_name w g)))
          ≡ apply g (cond t (fault 6) (named w))
      go true = refl
      go false = refl
  name_classified (w ∷ v ∷ ws) = refl

  pub typed_classified : (f : Bytes) → typed_field g f ≡ apply g (classify_typed f)
  unfolding typed_field classify_typed classify_string
  typed_classified f =
      let ps = two_parts (split 44 (drop 5 f)) in
      simp (apply_cond, relation_classified Subgraph 4 ps, relation_classified Translation 5 ps)

  pub gaf_classified : (head : Bytes) (rest : List Bytes) → is_gaf_head head ≡ true → gaf_line g head rest ≡ apply g (classify_gaf (drop 1 head) rest)
  unfolding gaf_line classify_gaf
  gaf_classified head rest h =
      let b : get_or head 0 0 ≡ 64 = eqb-true (get_or head 0 0) 64 (and_parts (eqb (length head) 3) (eqb (get_or head 0 0) 64) h).1 in
      let ps = two_parts rest in
      rw (same_behind head (text "RN") b, same_behind head (text "SG") b, same_behind head (text "TL") b)
      (simp (apply_cond, name_classified rest, relation_classified Subgraph 7 ps, relation_classified Translation 8 ps))
