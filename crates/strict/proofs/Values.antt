-- The tests of values in the terms of the code: one byte, a run of bytes of a class, a number, a list.
use mathlib.Core.Path.{◌≡◌, refl, sym, ◌∙◌}
use mathlib.Core.Logic.{◌⊎◌, inl, inr, ⊎_elim}
use mathlib.Core.Bool.{Bool, true, false, cond, ◌&&◌, ◌||◌, and-false, and_assoc, and-or_distrib_right}
use mathlib.Core.List.{[], ◌∷◌}
use Prim.Native.Nat.{ℕ, suc, ◌-◌}
use native.Mathlib.Omega.{arith}
use lib.Dec.{eqb, leb, ltb}
use lib.ListN.{length, get_or, take, drop, length-drop}
use lib.Seq.{take_all}
use borrow.Author.Tests.{lt-ltb, le-leb, ne_eqb}
use Rattle.model.specs.Text.{text}
use Rattle.model.specs.Bytes.{Bytes}
use Rattle.model.specs.Strict.{Class, Regex, never, epsilon, one, seq, alt, plus, integer, float, digit, hex_letter, visible, printable, nullable, after, matches, value_of}
use Rattle.std.specs.Prelude.{Some}
pub use Rattle.std.proofs.lemmas.Bool.Decides.{nat_tests}
use Rattle.std.specs.List.{list_all}
use Rattle.strict.specs.Class.{is_one_of}
use Rattle.strict.specs.Number.{run, run_list}
use Rattle.strict.specs.declared.number.Number.TheVariants.{Float, Integer}
use Rattle.strict.proofs.Sequences.{never_fails, seq_end, alt_or, seq_alt, seq_plus, seq_one, seq_one_of}
use Rattle.strict.proofs.Numbers.{item, items_step, run_left, list_left}

-- a part that goes to the end
pub part_to_end : (n : ℕ) (v : Bytes) → take (length v - n) (drop n v) ≡ drop n v
part_to_end n v = take_all (length v - n) (drop n v) (rw length-drop (omega arith))

-- one byte of a class
one_byte : (c : Class) (v : Bytes) → matches (one c) v ≡ eqb (length v) 1 && c (get_or v 0 0)
unfolding matches nullable after
one_byte c [] = refl
one_byte c (x ∷ []) = go (c x)
  where
    go : (t : Bool) → nullable (cond t epsilon never) ≡ t
    go true = refl
    go false = refl
one_byte c (x ∷ y ∷ v) = go (c x) ∙ rw (ne_eqb (suc (suc (length v))) 1 (λ e. omega arith))
  where
    go : (t : Bool) → matches (after y (cond t epsilon never)) v ≡ false
    go true = never_fails v
    go false = never_fails v

-- p matches one byte, of the class c, and what follows is r's
abbrev IsByte : Regex → Class → Type 0
IsByte p c = (r : Regex) → (matches (seq p r) [] ≡ false) × ((x : ℕ) (s : Bytes) → matches (seq p r) (x ∷ s) ≡ c x && matches r s)

-- one or more bytes of a class
module _ (p : Regex) (c : Class) (byte : IsByte p c) where
  -- after one byte: the end, or more of them
  or_more : (s : Bytes) → matches epsilon s || (ltb 0 (length s) && list_all c s) ≡ list_all c s
  unfolding matches nullable after
  or_more [] = refl
  or_more (x ∷ s) = rw (never_fails s, lt-ltb 0 (suc (length s)) (omega arith))

  from : (s : Bytes) → matches (seq (plus p) epsilon) s ≡ ltb 0 (length s) && list_all c s
  from [] = seq_plus p epsilon [] ∙ (byte (alt epsilon (seq (plus p) epsilon))).0
  from (x ∷ s) =
      seq_plus p epsilon (x ∷ s)
      ∙ (byte (alt epsilon (seq (plus p) epsilon))).1 x s
      ∙ rw (alt_or epsilon (seq (plus p) epsilon) s, from s, lt-ltb 0 (suc (length s)) (omega arith), or_more s)

  pub run_test : (s : Bytes) → matches (plus p) s ≡ ltb 0 (length s) && list_all c s
  run_test s = sym (seq_end (plus p) s) ∙ from s

pub one_class : (c : Class) → IsByte (one c) c
unfolding matches nullable
one_class c r = (refl, seq_one c r)

pub two_classes : (c d : Class) → IsByte (alt (one c) (one d)) (λ x. c x || d x)
unfolding matches nullable
two_classes c d r = (
  refl,
  λ x s.
      seq_alt (one c) (one d) r (x ∷ s) ∙ rw (seq_one c r x s, seq_one d r x s) (sym (and-or_distrib_right (c x) (d x) (matches r s))),
)

-- ------------------------------------------------------------------ the value of each type, as a test of the code

module _ (t : ℕ) (v : Bytes) where
  pub visible_value : t ≡ 65 → matches (value_of t) v ≡ eqb (length v) 1 && visible (get_or v 0 0)
  unfolding value_of
  visible_value e = rw e (one_byte visible v)

  pub integer_value : t ≡ 105 → matches (value_of t) v ≡ run Integer v
  unfolding value_of
  integer_value e = rw e (sym (run_left (Some Integer) v ∙ seq_end integer v))

  pub float_value : t ≡ 102 → matches (value_of t) v ≡ run Float v
  unfolding value_of
  float_value e = rw e (sym (run_left (Some Float) v ∙ seq_end float v))

  pub text_value : (t ≡ 90) ⊎ (t ≡ 74) → matches (value_of t) v ≡ ltb 0 (length v) && list_all printable v
  unfolding value_of
  text_value e = ⊎_elim (λ e. rw e text_test) (λ e. rw e text_test) e
    where
      text_test : matches (plus (one printable)) v ≡ ltb 0 (length v) && list_all printable v
      text_test = run_test (one printable) printable (one_class printable) v

  pub hex_value : t ≡ 72 → matches (value_of t) v ≡ ltb 0 (length v) && list_all (λ x. digit x || hex_letter x) v
  unfolding value_of
  hex_value e = rw e (run_test (alt (one digit) (one hex_letter)) (λ x. digit x || hex_letter x) (two_classes digit hex_letter) v)

  -- a byte that is no type has no value
  pub no_value : (t ≡ 65 → ⊥) → (t ≡ 105 → ⊥) → (t ≡ 102 → ⊥) → ((t ≡ 90) ⊎ (t ≡ 74) → ⊥) → (t ≡ 72 → ⊥) → (t ≡ 66 → ⊥)
      → matches (value_of t) v ≡ false
  unfolding value_of
  no_value a i f z h b =
      rw (
        ne_eqb t 65 a,
        ne_eqb t 105 i,
        ne_eqb t 102 f,
        ne_eqb t 90 (λ e. z (inl e)),
        ne_eqb t 74 (λ e. z (inr e)),
        ne_eqb t 72 h,
        ne_eqb t 66 b,
      )
      (never_fails v)

pub ruleset values = (nat_tests, visible_value, integer_value, float_value, text_value, hex_value, no_value)

-- a list: a letter of a number's width, a comma, and numbers between commas
pub list_value : (v : Bytes)
    → matches (value_of 66) v ≡ leb 2 (length v) && is_one_of (text "cCsSiIf") (get_or v 0 0) && eqb 44 (get_or v 1 0) && run_list (drop 2 v)
unfolding value_of matches nullable
list_value [] = refl
list_value (x ∷ []) = seq_one_of (text "cCsSiIf") (plus item) x [] ∙ and-false (is_one_of (text "cCsSiIf") x)
list_value (x ∷ y ∷ v) =
    seq_one_of (text "cCsSiIf") (plus item) x (y ∷ v)
    ∙ rw (sym (seq_end (plus item) (y ∷ v)) ∙ items_step y v, ← list_left (Some Float) v, le-leb 2 (suc (suc (length v))) (omega arith))
    (sym (and_assoc (is_one_of (text "cCsSiIf") x) (eqb 44 y) (run_list v)))

pub ruleset list_cases = (nat_tests, list_value)
