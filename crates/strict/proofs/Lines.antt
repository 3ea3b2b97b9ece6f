-- How far the reading of a line's fields has come, and what one field more makes of it.
use mathlib.Core.Path.{◌≡◌, refl, sym, ap, ◌∙◌}
use mathlib.Core.Bool.{Bool, true, false, cond, ◌&&◌, not, false≢true}
use mathlib.Core.List.{List, [], ◌∷◌}
use Prim.Native.Nat.{ℕ, suc, ◌+◌, ◌≤◌}
use native.Mathlib.Omega.{arith}
use native.Mathlib.Numerals.{add-one}
use lib.ListN.{length, get_or, take, set, replicate}
use Rattle.std.specs.Prelude.{Ok, Err, Option, Some, None, MatchBool, MatchOption}
use Rattle.std.specs.Borrow.{Bor}
use Rattle.std.specs.Str.{bytes_eq}
use Rattle.std.specs.Option.{option_eq}
use Rattle.std.specs.Cmp.{both_ways}
use Rattle.std.proofs.lemmas.Slice.Eq.{bytes_eq-Decides}
use Rattle.std.proofs.lemmas.Bool.{and_parts}
use Rattle.model.specs.Text.{text}
use Rattle.model.specs.Bytes.{Bytes, same_bytes, split}
use Rattle.model.specs.Strict.{fine_field, strict_fields, strict_parts, strict}
use Rattle.text.proofs.Order.{same_bytes_true}
use Rattle.strict.specs.Tag.{field_place}
use Rattle.strict.proofs.Bound.{split_length}
use Rattle.strict.proofs.Tags.{Marked, marked_none, marked_field, new_tag}

same_text : (a b : Bytes) → bytes_eq a b ≡ same_bytes a b
same_text a b =
    let d = bytes_eq-Decides a b in
    let s = same_bytes_true a b in
    both_ways (bytes_eq a b) (same_bytes a b) (λ h. s.1 (d.0 h)) (λ h. d.1 (s.0 h))

-- the first of some fields, if there is one, and those behind it
abbrev First : List Bytes → Option (Bor Bytes) → List Bytes → Type 0
First fields f rest = MatchOption f ((fields ≡ []) × (rest ≡ [])) (λ x. fields ≡ x.now ∷ rest)

-- n fields were read behind the first; the table has their tags, and the fields left decide
pub record Reading (line : Bytes) (seen : List Bool) (n : ℕ) (left : List Bytes) : Type 0 where
  pub tags : List Bytes
  pub marked : Marked seen tags
  pub few : n + length left ≤ length line
  pub same : strict line ≡ strict_fields (suc n) tags left

-- whether there is no such field, or it is not h
abbrev is_other : Option (Bor Bytes) → Bor Bytes → Bool
is_other f h = not (option_eq (λ x y. bytes_eq x.now y.now) f (Some h))

-- the first field decides, or those behind it
module _ (line : Bytes) {fields : List Bytes} (whole : fields ≡ split 9 line) (rest : List Bytes) (f : Option (Bor Bytes)) (steps : First fields f rest)
    (h : Bor Bytes) (is : h.now ≡ text "H") where
  strict_first : strict line ≡ cond (is_other f h) (Err 0) (strict_fields 1 [] rest)
  unfolding strict
  strict_first = ap strict_parts (sym whole) ∙ go f steps
    where
      turned : (t : Bool) → cond t (strict_fields 1 [] rest) (Err 0) ≡ cond (not t) (Err 0) (strict_fields 1 [] rest)
      turned true = refl
      turned false = refl

      go : (f : Option (Bor Bytes)) → First fields f rest → strict_parts fields ≡ cond (is_other f h) (Err 0) (strict_fields 1 [] rest)
      go None s = rw s.0
      go (Some x) s = rw (s, is, same_text x.now (text "H")) (turned (same_bytes x.now (text "H")))

  pub read_other : is_other f h ≡ true → strict line ≡ Err 0
  read_other e = strict_first ∙ rw e

  pub read_none : is_other f h ≡ false → (seen : List Bool) → seen ≡ replicate 2704 false → Reading line seen 0 rest
  read_none e seen m = record {
    tags = [];
    marked = marked_none seen m;
    few = go f steps e;
    same = strict_first ∙ rw e;
  }
    where
      go : (f : Option (Bor Bytes)) → First fields f rest → is_other f h ≡ false → 0 + length rest ≤ length line
      go None s n = absurd (false≢true (sym n))
      go (Some x) s n = omega (arith, ap length s, ap length whole, split_length 9 line)

module _ {line : Bytes} {seen : List Bool} {n : ℕ} {left : List Bytes} (r : Reading line seen n left) where
  pub read_all : left ≡ [] → strict line ≡ Ok tt
  unfolding strict_fields
  read_all e = r.same ∙ rw e

  -- one field more: the reading goes on, or ends here
  pub next_field : {f : Bytes} {rest : List Bytes} → left ≡ f ∷ rest → (t : Bool) → t ≡ fine_field f && not (get_or seen (field_place f) false)
      → (seen' : List Bool) → seen' ≡ cond (fine_field f) (set seen (field_place f) true) seen
      → MatchBool t (Reading line seen' (n + 1) rest) (strict line ≡ Err (n + 1))
  unfolding strict_fields
  next_field {f} {rest} e t b seen' m =
      rw add-one (go t (λ h. (and_parts (fine_field f) _ (sym b ∙ h)).0) (r.same ∙ rw (e, b, new_tag f seen r.tags r.marked)))
    where
      go : (t : Bool) → (t ≡ true → fine_field f ≡ true) → strict line ≡ cond t (strict_fields (suc (suc n)) (take 2 f ∷ r.tags) rest) (Err (suc n))
          → MatchBool t (Reading line seen' (suc n) rest) (strict line ≡ Err (suc n))
      go true g d = record {
        tags = take 2 f ∷ r.tags;
        marked = rw (m, g refl) (marked_field f seen r.tags (g refl) r.marked);
        few = omega (arith, r.few, ap length e);
        same = d;
      }
      go false g d = d
