-- The numbers that answers are handed out as, and the flags that come in: 1 and 0 for yes and no, 0 beside a part that is not there.
use Rattle.std.specs.Prelude.{Result, Bool, true, false, cond, not, ℕ, ◌+◌, length, eqb, Option, Some, None, Ok, Err}
use Rattle.model.specs.Bytes.{Bytes}
use Rattle.model.specs.declared.holdings.Part.{Part}
use Rattle.model.specs.declared.holdings.PairParts.{PairParts}
use Rattle.model.specs.declared.holdings.TagParts.{TagParts}

abbrev pub one_if : Bool → ℕ
one_if true = 1
one_if false = 0

abbrev pub is_present : {A : Type 0} → Option A → ℕ
is_present None = 0
is_present (Some a) = 1

abbrev pub or_zero : {A : Type 0} → (A → ℕ) → Option A → ℕ
or_zero f None = 0
or_zero f (Some a) = f a

abbrev pub length_of : Option Bytes → ℕ
length_of = or_zero length

abbrev pub part_start : Option Part → ℕ
part_start = or_zero (λ (p : Part). p.start)

abbrev pub part_size : Option Part → ℕ
part_size = or_zero (λ (p : Part). p.size)

abbrev pub from_start_of : Option PairParts → ℕ
from_start_of = or_zero (λ (p : PairParts). p.from.start)

abbrev pub from_size_of : Option PairParts → ℕ
from_size_of = or_zero (λ (p : PairParts). p.from.size)

abbrev pub to_start_of : Option PairParts → ℕ
to_start_of = or_zero (λ (p : PairParts). p.to.start)

abbrev pub to_size_of : Option PairParts → ℕ
to_size_of = or_zero (λ (p : PairParts). p.to.size)

abbrev pub key_start_of : Option TagParts → ℕ
key_start_of = or_zero (λ (p : TagParts). p.key.start)

abbrev pub key_size_of : Option TagParts → ℕ
key_size_of = or_zero (λ (p : TagParts). p.key.size)

abbrev pub value_start_of : Option TagParts → ℕ
value_start_of = or_zero (λ (p : TagParts). p.value.start)

abbrev pub value_size_of : Option TagParts → ℕ
value_size_of = or_zero (λ (p : TagParts). p.value.size)

-- 0 for fine, else one more than the number of the first faulty field
abbrev pub strict_number : Result Unit ℕ → ℕ
strict_number (Ok tt) = 0
strict_number (Err n) = n + 1

-- a tag's value, where the tag is there
abbrev pub given : Bool → Bytes → Option Bytes
given there value = cond there (Some value) None

-- the same by a flag: the tag is there if its flag is not 0
abbrev pub flagged : ℕ → Bytes → Option Bytes
flagged flag value = given (not (eqb flag 0)) value
