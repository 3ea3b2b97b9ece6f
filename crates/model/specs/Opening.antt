-- What is read of the buffers that an entry takes, or the number of its refusal: the size of each buffer comes before the contents of any,
-- and both go in the order of the buffers. Every entry that can refuse for a buffer does so by `opened`.
use Rattle.std.specs.Prelude.{Bool, true, false, cond, ◌&&◌, ℕ, length, eqb, Option, Some, None, Result, Ok, Err}
use Rattle.model.specs.declared.fault.Fault.{Fault}
use Rattle.model.specs.declared.fault.Fault.TheVariants.{WrongBuffer, NotARecord}
use Rattle.model.specs.Faults.{fault_number}
use Rattle.model.specs.Bytes.{Bytes}
use Rattle.model.specs.Record.{GraphName}
use Rattle.model.specs.Layout.{record_length, decode}

-- an answer, or the fault for which it is refused
abbrev pub Given : Type 0 → Type 0
Given A = Result A Fault

-- 0 is done
abbrev pub number_of : {A : Type 0} → Given A → ℕ
number_of (Err e) = fault_number e
number_of (Ok a) = 0

-- what a number beside the answer then holds: it is written on 0 only
abbrev pub value_or : {A : Type 0} → ℕ → (A → ℕ) → Given A → ℕ
value_or old f (Err e) = old
value_or old f (Ok a) = f a

-- what comes of an answer; a refusal is passed on
abbrev pub and_then : {A B : Type 0} → Given A → (A → Given B) → Given B
and_then (Err e) f = Err e
and_then (Ok a) f = f a

-- an answer without its value
abbrev pub settled : {A : Type 0} → Given A → Given Unit
settled (Err e) = Err e
settled (Ok a) = Ok tt

-- both answers; the first refusal counts
abbrev pub both_given : {A B : Type 0} → Given A → Given B → Given (A × B)
both_given g h = and_then g λ a. and_then h λ b. Ok (a, b)

abbrev pub or_refuse : {A : Type 0} → Fault → Option A → Given A
or_refuse e None = Err e
or_refuse e (Some a) = Ok a

abbrev pub is_some : {A : Type 0} → Option A → Bool
is_some None = false
is_some (Some a) = true

-- ------------------------------------------------------------------ buffers

-- whether a buffer has its size, and what is read of it then
pub record Buffer (A : Type 0) : Type 0 where
  pub sized : Bool
  pub reading : Given A

-- one buffer and then another
abbrev pub followed_by : {A B : Type 0} → Buffer A → Buffer B → Buffer (A × B)
followed_by x y = record { sized = x.sized && y.sized; reading = both_given x.reading y.reading }

-- 15 for a size, before anything is read
unfoldable pub opened : {A : Type 0} → Buffer A → Given A
opened x = cond x.sized x.reading (Err WrongBuffer)

-- ------------------------------------------------------------------ records

abbrev pub has_size : Bytes → Bool
has_size b = eqb (length b) record_length

-- a record that is read: 16 where the contents are none
abbrev pub record_in : Bytes → Buffer GraphName
record_in b = record { sized = has_size b; reading = or_refuse NotARecord (decode b) }

-- a buffer that is only written, whatever it holds
abbrev pub overwritten : Bytes → Buffer Unit
overwritten b = record { sized = has_size b; reading = Ok tt }

-- one's own record, and another's
abbrev pub two_records : Bytes → Bytes → Buffer (GraphName × GraphName)
two_records b c = followed_by (record_in b) (record_in c)

-- the fault of a buffer, and of two
unfoldable pub check_of : Bytes → Given Unit
check_of b = settled (opened (record_in b))

unfoldable pub check_of_both : Bytes → Bytes → Given Unit
check_of_both b c = settled (opened (two_records b c))
