-- The own name that a reading keeps.
use Rattle.std.specs.Prelude.{ℕ, Option, Some, None}
use Rattle.arrayvec.specs.ArrayVec.{ArrayVec}
use Rattle.model.specs.Bytes.{Bytes}

-- its bytes, if there is one
abbrev pub own_of : Option (ArrayVec ℕ) → Option Bytes
own_of None = None
own_of (Some v) = Some v.items
