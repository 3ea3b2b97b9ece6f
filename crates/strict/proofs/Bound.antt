-- The number of a faulty field is at most the length of the line.
use mathlib.Core.Path.{◌≡◌, refl, sym, ◌∙◌}
use mathlib.Core.Bool.{Bool, true, false, cond, not, ◌&&◌}
use mathlib.Core.List.{List, [], ◌∷◌}
use Prim.Native.Nat.{ℕ, suc, ◌+◌, ◌≤◌, ◌<◌}
use native.Mathlib.Omega.{arith}
use lib.Dec.{eqb}
use lib.ListN.{length, take}
use Rattle.std.specs.Prelude.{Result, Err}
use Rattle.model.specs.Text.{text}
use Rattle.model.specs.Bytes.{Bytes, same_bytes, cons_head, split}
use Rattle.model.specs.Strict.{fine_field, has_tag, strict_fields, strict_parts, strict}

same_number : (m n : ℕ) → ◌≡◌ {A = Result Unit ℕ} (Err m) (Err n) → m ≡ n
same_number m n e = cc

fields_bound : (i : ℕ) (seen fs : List Bytes) (n : ℕ) → strict_fields i seen fs ≡ Err n → n < i + length fs
unfolding strict_fields
fields_bound i seen [] n e = let z : ◌≡◌ {A = ℕ} 0 1 = cc in absurd (omega arith)
fields_bound i seen (f ∷ fs) n e = go (fine_field f && not (has_tag (take 2 f) seen)) refl (fields_bound (suc i) (take 2 f ∷ seen) fs n)
  where
    go : (t : Bool) → (fine_field f && not (has_tag (take 2 f) seen)) ≡ t
        → (strict_fields (suc i) (take 2 f ∷ seen) fs ≡ Err n → n < suc i + length fs) → n < i + suc (length fs)
    go true d rest = let h = rest (sym (rw d) ∙ e) in omega arith
    go false d rest = let h = same_number i n (sym (rw d) ∙ e) in omega arith

pub split_length : (sep : ℕ) (s : Bytes) → length (split sep s) ≤ length s + 1
unfolding split
split_length sep [] = omega arith
split_length sep (x ∷ xs) = go (eqb x sep) (split sep xs) (split_length sep xs)
  where
    go : (t : Bool) (ws : List Bytes) → length ws ≤ length xs + 1 → length (cond t ([] ∷ ws) (cons_head x ws)) ≤ suc (length xs) + 1
    go true ws h = omega arith
    go false [] h = omega arith
    go false (w ∷ ws) h = omega arith

parts_bound : (ws : List Bytes) (n : ℕ) → strict_parts ws ≡ Err n → n ≤ length ws
parts_bound [] n e = let h = same_number 0 n e in omega arith
parts_bound (h ∷ fs) n e = go (same_bytes h (text "H")) refl
  where
    go : (t : Bool) → same_bytes h (text "H") ≡ t → n ≤ suc (length fs)
    go true d = let l = fields_bound 1 [] fs n (sym (rw d) ∙ e) in omega arith
    go false d = let z = same_number 0 n (sym (rw d) ∙ e) in omega arith

pub strict_bound : (line : Bytes) (n : ℕ) → strict line ≡ Err n → n ≤ length line + 1
unfolding strict
strict_bound line n e = omega (arith, parts_bound (split 9 line) n e, split_length 9 line)
