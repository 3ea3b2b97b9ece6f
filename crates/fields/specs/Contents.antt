-- What the answers about a field mean: its type, its two parts, and its contents, where names are given by their places.
use Rattle.std.specs.Prelude.{cond, ◌+◌, ◌-◌, ◌<◌, ◌≤◌, Bool, ℕ, length, take, drop, get_or, eqb, Option, Some, None, Result, Ok, Err}
use Rattle.model.specs.declared.fault.Fault.{Fault}
use Rattle.model.specs.declared.fault.Fault.TheVariants.{BadTypedField}
use Rattle.model.specs.Bytes.{Bytes}
use Rattle.model.specs.Faults.{fault_number}
use Rattle.model.specs.Record.{Pair}
use Rattle.model.specs.Reading.{is_typed}
use Rattle.fields.specs.Fields.{FieldMeaning, fault, nothing, named, related}
use Rattle.fields.specs.declared.field.Content.{Content}
use Rattle.fields.specs.declared.field.Content.TheVariants.{Nothing, Name, Relation}

-- rule 3, and then whether the type is Z
abbrev pub is_string : Bytes → Result Bool Fault
is_string f = cond (is_typed f) (Ok (eqb (get_or f 3 0) 90)) (Err BadTypedField)

-- the two parts round the separator at a place of s
abbrev pub parts_of : Bytes → Option ℕ → Option Pair
parts_of s None = None
parts_of s (Some i) = Some (record { from = take i s; to = drop (i + 1) s })

-- neither part is empty
abbrev pub NeitherEmpty : Bytes → Option ℕ → Type 0
NeitherEmpty s None = Unit {0}
NeitherEmpty s (Some i) = (0 < i) × (i + 1 < length s)

-- a name goes on to the end of f; a relation's first name ends at its separator, its second goes on to the end
abbrev pub meaning_of : Bytes → Result Content Fault → FieldMeaning
meaning_of f (Err e) = fault (fault_number e)
meaning_of f (Ok Nothing) = nothing
meaning_of f (Ok (Name i)) = named (drop i f)
meaning_of f (Ok (Relation k i m)) = related k (record { from = take (m - i) (drop i f); to = drop (m + 1) f })

-- the places lie within f
abbrev pub PlacesIn : Bytes → Result Content Fault → Type 0
PlacesIn f (Err e) = Unit {0}
PlacesIn f (Ok Nothing) = Unit {0}
PlacesIn f (Ok (Name i)) = i ≤ length f
PlacesIn f (Ok (Relation k i m)) = (i ≤ m) × (m < length f)
