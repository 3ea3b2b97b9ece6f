-- A number read byte by byte has the test of its expression: each state has a test of what may follow, and a byte leads from one to the next.
use mathlib.Core.Path.{◌≡◌, refl, sym, ap, ◌∙◌}
use mathlib.Core.Bool.{Bool, true, false, cond, ◌&&◌, ◌||◌, false≢true, and-eq-true_iff, and-true, and-false, or-false, or_assoc, or_comm, or_self}
use mathlib.Core.List.{[], ◌∷◌}
use Prim.Native.Nat.{ℕ}
use lib.Dec.{eqb}
use borrow.Author.Tests.{eqb-true, eqb-false, ne_eqb}
use Rattle.model.specs.Bytes.{Bytes}
use Rattle.model.specs.Strict.{Regex, epsilon, one, seq, alt, plus, opt, byte, one_of, sign, digit, integer, float, nullable, after, matches}
use Rattle.strict.specs.Class.{is_one_of}
use Rattle.std.specs.Prelude.{Option, Some, None, option_and_then}
use Rattle.strict.specs.Number.{signs, exponents, after_digit, after_sign, after_number, next, next_listed, ends, ended, read, read_list}
use Rattle.strict.specs.declared.number.Number.{Number}
use Rattle.strict.specs.declared.number.Number.TheVariants.{Float, Unsigned, Whole, Point, Fraction, Integer, UnsignedInteger, Digits}
use Rattle.strict.proofs.Sequences.{never_fails, seq_seq, alt_or, seq_opt, seq_plus, seq_one, seq_one_of, seq_run}

-- the parts of a number's expression
abbrev digits : Regex
digits = plus (one digit)

abbrev exponent : Regex
exponent = opt (seq (one_of exponents) integer)

abbrev fraction : Regex
fraction = seq digits exponent

abbrev pointed : Regex
pointed = seq (opt (byte 46)) fraction

abbrev pub item : Regex
item = seq (byte 44) float

-- what may follow a number: nothing, or in a list more items
abbrev pub rest : Bool → Regex
rest false = epsilon
rest true = alt epsilon (seq (plus item) epsilon)

-- in a list, a comma behind a number, and then the next number
abbrev comma : Bool → ℕ → Option Number → Option Number
comma list x q = cond (eqb 44 x && list) (Some Float) q

-- the state after the byte x, of a number or in a list
abbrev next_in : Bool → ℕ → Number → Option Number
next_in list x Float = next x Float
next_in list x Unsigned = next x Unsigned
next_in list x Whole = after_number x (comma list x (after_sign x))
next_in list x Point = next x Point
next_in list x Fraction = after_number x (comma list x (after_digit x Fraction))
next_in list x Integer = next x Integer
next_in list x UnsignedInteger = next x UnsignedInteger
next_in list x Digits = comma list x (after_digit x Digits)

-- the test of what is left to read in a state
abbrev pub left : Bool → Option Number → Bytes → Bool
left list None s = false
left list (Some Float) s = matches (seq float (rest list)) s
left list (Some Unsigned) s = matches (seq (seq (opt digits) pointed) (rest list)) s
left list (Some Whole) s =
    (matches (seq exponent (rest list)) s || matches (seq digits (seq exponent (rest list))) s)
    || matches (seq (seq (opt digits) pointed) (rest list)) s
left list (Some Point) s = matches (seq digits (seq exponent (rest list))) s
left list (Some Fraction) s = matches (seq exponent (rest list)) s || matches (seq digits (seq exponent (rest list))) s
left list (Some Integer) s = matches (seq integer (rest list)) s
left list (Some UnsignedInteger) s = matches (seq digits (rest list)) s
left list (Some Digits) s = matches (rest list) s || matches (seq digits (rest list)) s

rest_ends : (list : Bool) → nullable (rest list) ≡ true
unfolding nullable
rest_ends true = refl
rest_ends false = refl

left_ends : (list : Bool) (q : Number) → left list (Some q) [] ≡ ends q
unfolding matches nullable
left_ends list Float = refl
left_ends list Unsigned = refl
left_ends list Whole = rw (rest_ends list)
left_ends list Point = refl
left_ends list Fraction = rw (rest_ends list)
left_ends list Integer = refl
left_ends list UnsignedInteger = refl
left_ends list Digits = rw (rest_ends list)

-- a part that may be missing, then p, then r
seq_opt_seq : (o p r : Regex) (s : Bytes) → matches (seq (seq (opt o) p) r) s ≡ matches (seq o (seq p r)) s || matches (seq p r) s
seq_opt_seq o p r s = seq_seq (opt o) p r s ∙ seq_opt o (seq p r) s

-- no byte of some may stand where f decides
abbrev Refuses : (ℕ → Option Number) → Bytes → Type 0
Refuses f [] = Unit {0}
Refuses f (b ∷ bs) = (f b ≡ None) × Refuses f bs

refused_at : (f : ℕ → Option Number) (bs : Bytes) (x : ℕ) → Refuses f bs → is_one_of bs x ≡ true → f x ≡ None
refused_at f [] x r e = absurd (false≢true e)
refused_at f (b ∷ bs) x r e = go (eqb b x) refl e (refused_at f bs x r.1)
  where
    go : (t : Bool) → eqb b x ≡ t → t || is_one_of bs x ≡ true → (is_one_of bs x ≡ true → f x ≡ None) → f x ≡ None
    go true h e k = sym (ap f (eqb-true b x h)) ∙ r.0
    go false h e k = k e

module _ (list : Bool) (s : Bytes) where
  -- a test that leads to q, or else what p leaves; p is nothing where the test holds
  or_else : (t : Bool) (q p : Option Number) → (t ≡ true → p ≡ None) → (t && left list q s) || left list p s ≡ left list (cond t q p) s
  or_else true q p f = rw (f refl) (or-false (left list q s))
  or_else false q p f = refl

  or_nothing : (t : Bool) (q : Option Number) → t && left list q s ≡ left list (cond t q None) s
  or_nothing true q = refl
  or_nothing false q = refl

-- more items of a list begin with a comma
pub items_step : (x : ℕ) (s : Bytes) → matches (seq (plus item) epsilon) (x ∷ s) ≡ eqb 44 x && left true (Some Float) s
items_step x s = seq_plus item epsilon (x ∷ s) ∙ seq_seq (byte 44) float (rest true) (x ∷ s) ∙ seq_one (eqb 44) (seq float (rest true)) x s

rest_step : (list : Bool) (x : ℕ) (s : Bytes) → matches (rest list) (x ∷ s) ≡ (eqb 44 x && list) && left list (Some Float) s
unfolding matches after
rest_step true x s =
    alt_or epsilon (seq (plus item) epsilon) (x ∷ s) ∙ rw (never_fails s, and-true (eqb 44 x)) (items_step x s)
rest_step false x s = never_fails s ∙ rw (and-false (eqb 44 x))

module _ (list : Bool) (x : ℕ) (s : Bytes) where
  unsigned_integer_step : left list (Some UnsignedInteger) (x ∷ s) ≡ left list (next x UnsignedInteger) s
  unsigned_integer_step = seq_run digit (rest list) x s ∙ or_nothing list s (digit x) (Some Digits)

  point_step : left list (Some Point) (x ∷ s) ≡ left list (next x Point) s
  point_step = seq_run digit (seq exponent (rest list)) x s ∙ or_nothing list s (digit x) (Some Fraction)

  integer_step : left list (Some Integer) (x ∷ s) ≡ left list (next x Integer) s
  integer_step =
      seq_opt_seq sign digits (rest list) (x ∷ s)
      ∙ rw (seq_one_of signs (seq digits (rest list)) x s, unsigned_integer_step)
      (or_else list s (is_one_of signs x) (Some UnsignedInteger) (next x UnsignedInteger)
      (refused_at (λ y. next y UnsignedInteger) signs x (refl, (refl, tt))))

  -- a comma of a list, or else what p leaves
  comma_step : (p : ℕ → Option Number) → p 44 ≡ None
      → matches (rest list) (x ∷ s) || left list (p x) s ≡ left list (comma list x (p x)) s
  comma_step p r =
      rw (rest_step list x s)
      (or_else list s (eqb 44 x && list) (Some Float) (p x) (λ e. refused_at p (44 ∷ []) x (r, tt) (rw ((and-eq-true_iff (eqb 44 x) list).0 e).0)))

  digits_step : left list (Some Digits) (x ∷ s) ≡ left list (next_in list x Digits) s
  digits_step = rw unsigned_integer_step (comma_step (λ y. next y UnsignedInteger) refl)

  -- an exponent, a comma of a list, or else what p leaves
  exponent_step : (p : ℕ → Option Number) → Refuses p (44 ∷ exponents)
      → matches (seq exponent (rest list)) (x ∷ s) || left list (p x) s ≡ left list (after_number x (comma list x (p x))) s
  exponent_step p r =
      rw (
        seq_opt (seq (one_of exponents) integer) (rest list) (x ∷ s),
        seq_seq (one_of exponents) integer (rest list) (x ∷ s),
        seq_one_of exponents (seq integer (rest list)) x s,
        or_assoc,
        comma_step p r.0,
      )
      (or_else list s (is_one_of exponents x) (Some Integer) (comma list x (p x)) (refused_at (λ y. comma list y (p y)) exponents x r.1))

  fraction_step : left list (Some Fraction) (x ∷ s) ≡ left list (next_in list x Fraction) s
  fraction_step = rw point_step (exponent_step (λ y. next y Point) (refl, (refl, (refl, tt))))

  -- the point and a fraction, or a fraction
  pointed_step : matches (seq pointed (rest list)) (x ∷ s) ≡ (eqb 46 x && left list (Some Point) s) || (digit x && left list (Some Fraction) s)
  pointed_step =
      seq_opt_seq (byte 46) fraction (rest list) (x ∷ s)
      ∙ rw (
        seq_one (eqb 46) (seq fraction (rest list)) x s,
        seq_seq digits exponent (rest list) s,
        seq_seq digits exponent (rest list) (x ∷ s),
        seq_run digit (seq exponent (rest list)) x s,
      )

  unsigned_step : left list (Some Unsigned) (x ∷ s) ≡ left list (next x Unsigned) s
  unsigned_step =
      seq_opt_seq digits pointed (rest list) (x ∷ s)
      ∙ rw (seq_run digit (seq pointed (rest list)) x s, pointed_step)
      (gather (digit x) (matches (seq pointed (rest list)) s) (matches (seq digits (seq pointed (rest list))) s) (eqb 46 x && left list (Some Point) s)
      (left list (Some Fraction) s)
      ∙ rw (← seq_opt_seq digits pointed (rest list) s, or_nothing list s (digit x) (Some Whole))
      (or_else list s (eqb 46 x) (Some Point) (after_digit x Whole) (λ e. refused_at (λ y. after_digit y Whole) (46 ∷ []) x (refl, tt) (rw e))))
    where
      gather : (d r t k f : Bool) → (d && (r || t)) || (k || (d && f)) ≡ k || (d && (f || (t || r)))
      gather true r t k f = or_comm (r || t) (k || f) ∙ or_assoc k f (r || t) ∙ ap (λ (u : Bool). k || (f || u)) (or_comm r t)
      gather false r t k f = refl

  float_step : left list (Some Float) (x ∷ s) ≡ left list (next x Float) s
  float_step =
      seq_opt_seq sign (seq (opt digits) pointed) (rest list) (x ∷ s)
      ∙ rw (seq_one_of signs (seq (seq (opt digits) pointed) (rest list)) x s, unsigned_step)
      (or_else list s (is_one_of signs x) (Some Unsigned) (after_sign x) (refused_at after_sign signs x (refl, (refl, tt))))

  -- after digits, a further digit is of the whole part too
  digit_again : left list (next x Point) s || left list (after_sign x) s ≡ left list (after_sign x) s
  digit_again = go (digit x) (eqb 46 x) refl refl
    where
      go : (d p : Bool) → digit x ≡ d → eqb 46 x ≡ p
          → left list (cond d (Some Fraction) None) s || left list (cond p (Some Point) (cond d (Some Whole) None)) s
          ≡ left list (cond p (Some Point) (cond d (Some Whole) None)) s
      go true true e f = absurd (false≢true (ap digit (eqb-true 46 x f) ∙ e))
      go true false e f =
          sym (or_assoc (left list (Some Fraction) s) (left list (Some Fraction) s) (left list (Some Unsigned) s))
          ∙ ap (λ (t : Bool). t || left list (Some Unsigned) s) (or_self (left list (Some Fraction) s))
      go false p e f = refl

  whole_step : left list (Some Whole) (x ∷ s) ≡ left list (next_in list x Whole) s
  whole_step = rw (or_assoc, point_step, unsigned_step, digit_again) (exponent_step after_sign (refl, (refl, (refl, tt))))

-- a byte leads from a state to the next
left_step : (list : Bool) (q : Number) (x : ℕ) (s : Bytes) → left list (Some q) (x ∷ s) ≡ left list (next_in list x q) s
left_step list Float x s = float_step list x s
left_step list Unsigned x s = unsigned_step list x s
left_step list Whole x s = whole_step list x s
left_step list Point x s = point_step list x s
left_step list Fraction x s = fraction_step list x s
left_step list Integer x s = integer_step list x s
left_step list UnsignedInteger x s = unsigned_integer_step list x s
left_step list Digits x s = digits_step list x s

-- ------------------------------------------------------------------ one number, and numbers between commas

ended_left : (list : Bool) (q : Option Number) → left list q [] ≡ ended q
ended_left list None = refl
ended_left list (Some q) = left_ends list q

-- where no comma of a list stands, a byte does what it does in a number
same_next : (list : Bool) (q : Number) (x : ℕ) → eqb 44 x && list ≡ false → next_in list x q ≡ next x q
same_next list Float x e = refl
same_next list Unsigned x e = refl
same_next list Whole x e = rw e
same_next list Point x e = refl
same_next list Fraction x e = rw e
same_next list Integer x e = refl
same_next list UnsignedInteger x e = refl
same_next list Digits x e = rw e

read_step : (q : Option Number) (x : ℕ) (s : Bytes) → left false q (x ∷ s) ≡ left false (option_and_then (next x) q) s
read_step None x s = refl
read_step (Some q) x s = left_step false q x s ∙ rw (same_next false q x (and-false (eqb 44 x)))

-- reading on from a state makes the test of what is left
pub run_left : (q : Option Number) (s : Bytes) → ended (read q s) ≡ left false q s
unfolding read
run_left q [] = sym (ended_left false q)
run_left q (x ∷ s) = run_left (option_and_then (next x) q) s ∙ sym (read_step q x s)

-- at a comma of a list, a number that may end there gives way to the next
list_step : (q : Option Number) (x : ℕ) (s : Bytes) → left true q (x ∷ s) ≡ left true (option_and_then (next_listed x) q) s
list_step None x s = refl
list_step (Some q) x s = left_step true q x s ∙ go (eqb x 44) refl
  where
    comma : (q : Number) → left true (next_in true 44 q) s ≡ left true (cond (ends q) (Some Float) None) s
    comma Float = refl
    comma Unsigned = refl
    comma Whole = refl
    comma Point = refl
    comma Fraction = refl
    comma Integer = refl
    comma UnsignedInteger = refl
    comma Digits = refl

    go : (t : Bool) → eqb x 44 ≡ t → left true (next_in true x q) s ≡ left true (cond t (cond (ends q) (Some Float) None) (next x q)) s
    go true e = rw (eqb-true x 44 e) (comma q)
    go false e = rw (same_next true q x (rw (ne_eqb 44 x (λ p. eqb-false x 44 e (sym p)))))

-- and so does reading on in a list
pub list_left : (q : Option Number) (s : Bytes) → ended (read_list q s) ≡ left true q s
unfolding read_list
list_left q [] = sym (ended_left true q)
list_left q (x ∷ s) = list_left (option_and_then (next_listed x) q) s ∙ sym (list_step q x s)
