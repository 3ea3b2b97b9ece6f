-- The classes of a byte as the digits of one number to the base 2, and a byte among others.
use Rattle.std.specs.Prelude.{◌≡◌, ℕ, ◌/◌, ◌%◌, eqb}
use Rattle.std.specs.List.{list_any}
use Rattle.model.specs.Bytes.{Bytes}
use Rattle.model.specs.Strict.{Class, digit, hex_letter, letter, visible, printable}
use Rattle.strict.specs.declared.class.Class as code
use Rattle.strict.specs.declared.class.Class.TheVariants.{Digit, HexLetter, Letter, Visible, Printable}

-- a byte is one of some bytes
abbrev pub is_one_of : Bytes → Class
is_one_of bs x = list_any (λ b. eqb b x) bs

-- the number n has the classes of the byte x
pub record Classes (x n : ℕ) : Type 0 where
  pub digits : eqb (n % 2) 1 ≡ digit x
  pub hex_letters : eqb (n / 2 % 2) 1 ≡ hex_letter x
  pub letters : eqb (n / 4 % 2) 1 ≡ letter x
  pub visibles : eqb (n / 8 % 2) 1 ≡ visible x
  pub printables : eqb (n / 16 % 2) 1 ≡ printable x

-- the class that the code names
abbrev pub is_of : code.Class → Class
is_of Digit = digit
is_of HexLetter = hex_letter
is_of Letter = letter
is_of Visible = visible
is_of Printable = printable
