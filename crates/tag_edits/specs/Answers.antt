-- What a removal answers.
use Rattle.std.specs.Prelude.{ℕ, length, Option, Ok}
use Rattle.model.specs.Opening.{Given, and_then}
use Rattle.model.specs.Questions.{mapped}
use Rattle.model.specs.TagOutcome.{Removal}

-- how long the value was that is removed
abbrev pub size_removed : Given Removal → Given (Option ℕ)
size_removed r = and_then r λ v. Ok (mapped length v.value)
