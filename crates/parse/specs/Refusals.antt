-- What a refusal and the answer of a reading say.
use Rattle.std.specs.Prelude.{ℕ, Result, Ok, Err}
use Rattle.model.specs.Faults.{fault_number}
use Rattle.model.specs.Record.{empty}
use Rattle.model.specs.Reading.{Refusal, done, refuse}
use Rattle.model.specs.Outcome.{refusal_of}
use Rattle.parse.specs.declared.refusal.Refusal.{Refusal as Given}

abbrev pub refusal_given : Given → Refusal
refusal_given r = record { number = fault_number r.fault; line = r.line; start = r.start; size = r.size; offset = r.offset }

-- a refusal that has no line and quotes nothing, at the front of what is read
abbrev pub unplaced : ℕ → Refusal
unplaced number = refusal_of (refuse 0 0 0 0 number)

-- the refusal, or that of a reading that is done
abbrev pub refusal_in : Result Unit Given → Refusal
refusal_in (Ok u) = refusal_of (done empty)
refusal_in (Err r) = refusal_given r
