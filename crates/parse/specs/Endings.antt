-- A whole reading: what its end means.
use Rattle.std.specs.Prelude.{Result, Ok, Err}
use Rattle.model.specs.Record.{GraphName}
use Rattle.model.specs.Reading.{Reading, done, refused}
use Rattle.parse.specs.Refusals.{refusal_given}
use Rattle.parse.specs.declared.refusal.Refusal.{Refusal}

-- the graph name then, or the refusal
abbrev pub reading_of : Result Unit Refusal → GraphName → Reading
reading_of (Ok u) g = done g
reading_of (Err r) g = refused (refusal_given r)
