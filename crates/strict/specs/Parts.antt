-- What parts that are left to give stand for.
use Rattle.std.specs.Prelude.{Option, Some, None, List, [], ℕ}
use Rattle.std.specs.Borrow.{Bor}
use Rattle.model.specs.Bytes.{Bytes, split}
use Rattle.strict.specs.declared.parts.Parts.{Parts}

-- the parts of a text, if there is one
abbrev pub parts_of : ℕ → Option (Bor Bytes) → List Bytes
parts_of separator None = []
parts_of separator (Some rest) = split separator rest.now

abbrev pub parts_left : Parts → List Bytes
parts_left p = parts_of p.separator p.rest
