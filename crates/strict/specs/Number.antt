-- Numbers read byte by byte: the states of the reading, and what each byte makes of them.
use Rattle.std.specs.Prelude.{Option, Some, None, option_map, option_and_then, unwrap_or, Bool, true, false, cond, ℕ, eqb, fold}
use Rattle.model.specs.Text.{text}
use Rattle.model.specs.Bytes.{Bytes}
use Rattle.model.specs.Strict.{digit}
use Rattle.strict.specs.Class.{is_one_of}
use Rattle.strict.specs.declared.number.Number.{Number}
use Rattle.strict.specs.declared.number.Number.TheVariants.{Float, Unsigned, Whole, Point, Fraction, Integer, UnsignedInteger, Digits}

abbrev pub signs : Bytes
signs = text "-+"

abbrev pub exponents : Bytes
exponents = text "eE"

-- behind a digit q, and behind another byte nothing
abbrev pub after_digit : ℕ → Number → Option Number
after_digit x q = cond (digit x) (Some q) None

-- behind the sign: the point, or a digit
abbrev pub after_sign : ℕ → Option Number
after_sign x = cond (eqb 46 x) (Some Point) (after_digit x Whole)

-- behind a number without an exponent: its exponent, or else what q says
abbrev pub after_number : ℕ → Option Number → Option Number
after_number x q = cond (is_one_of exponents x) (Some Integer) q

-- the state after the byte x, if x may stand there
abbrev pub next : ℕ → Number → Option Number
next x Float = cond (is_one_of signs x) (Some Unsigned) (after_sign x)
next x Unsigned = after_sign x
next x Whole = after_number x (after_sign x)
next x Point = after_digit x Fraction
next x Fraction = after_number x (after_digit x Fraction)
next x Integer = cond (is_one_of signs x) (Some UnsignedInteger) (after_digit x Digits)
next x UnsignedInteger = after_digit x Digits
next x Digits = after_digit x Digits

-- the state after a digit
abbrev pub digit_after : Number → Number
digit_after Float = Whole
digit_after Unsigned = Whole
digit_after Whole = Whole
digit_after Point = Fraction
digit_after Fraction = Fraction
digit_after Integer = Digits
digit_after UnsignedInteger = Digits
digit_after Digits = Digits

-- whether a number may end in a state
abbrev pub ends : Number → Bool
ends Float = false
ends Unsigned = false
ends Whole = true
ends Point = false
ends Fraction = true
ends Integer = false
ends UnsignedInteger = false
ends Digits = true

-- the state after a text, if each byte may stand where it does
unfoldable pub read : Option Number → Bytes → Option Number
read = fold (λ q x. option_and_then (next x) q)

-- whether a number may end in a state, if there is one
abbrev pub ended : Option Number → Bool
ended q = unwrap_or (option_map ends q) false

-- whether a text, read on from a state, is a number
abbrev pub run : Number → Bytes → Bool
run q v = ended (read (Some q) v)

-- the state after the byte x in a list: a comma ends a number, and the next begins
abbrev pub next_listed : ℕ → Number → Option Number
next_listed x q = cond (eqb x 44) (cond (ends q) (Some Float) None) (next x q)

-- the state after a text of a list
unfoldable pub read_list : Option Number → Bytes → Option Number
read_list = fold (λ q x. option_and_then (next_listed x) q)

-- whether a text is numbers with commas between them
abbrev pub run_list : Bytes → Bool
run_list v = ended (read_list (Some Float) v)
