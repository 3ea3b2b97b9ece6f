-- A reading's start and its end: the empty graph name, and what is answered.
use Rattle.std.proofs.Common.{◌≡◌, refl, sym, ◌∙◌, length}
use Rattle.model.specs.Bytes.{Bytes}
use Rattle.model.specs.Record.{GraphName, empty, judge}
use Rattle.model.specs.Layout.{record_length}
use Rattle.model.specs.Reading.{Refusal, Reading, from_header_lines}
use Rattle.model.specs.Outcome.{outcome_of, reading_into, refusal_of, refusal_into}
use Rattle.record.proofs.Opening.{written_opened, written_refused}
use Rattle.fields.specs.declared.field.Source.TheVariants.{Header}
use Rattle.fields.specs.Rest.{rest_of, first_stop}
use Rattle.fields.proofs.Rest.{header_start}
use Rattle.parse.specs.Refusals.{unplaced}
use Rattle.parse.proofs.Bounds.{empty_sizes}

-- ------------------------------------------------------------------ the start

pub nothing_judged : {g : GraphName} → g ≡ empty → judge g ≡ 0
nothing_judged e = rw e empty_sizes

-- header lines read from there
pub header_ended : (t : Bytes) {g : GraphName} {m : Reading} → g ≡ empty → m ≡ rest_of Header t 0 (first_stop Header t) 0 g → m ≡ from_header_lines t
header_ended t e d = d ∙ rw e (sym (header_start t))

-- ------------------------------------------------------------------ the end

-- a reading into a buffer, by the buffer's size
module _ (buffer : Bytes) (m : Reading) where
  pub ended_refusal : {n : Reading} {r : Refusal} → length buffer ≡ record_length → n ≡ m → r ≡ refusal_of n → r ≡ refusal_into m buffer
  ended_refusal e d h = rw (written_opened buffer e, ← d) h

  pub ended_buffer : {n : Reading} {b : Bytes} → length buffer ≡ record_length → n ≡ m → b ≡ (outcome_of n).buffer → b ≡ (reading_into m buffer).buffer
  ended_buffer e d h = rw (written_opened buffer e, ← d) h

  pub wrong_refusal : {r : Refusal} → (length buffer ≡ record_length → ⊥) → r ≡ unplaced 15 → r ≡ refusal_into m buffer
  wrong_refusal e h = rw (written_refused buffer e) h

  pub wrong_buffer : (length buffer ≡ record_length → ⊥) → buffer ≡ (reading_into m buffer).buffer
  wrong_buffer e = rw (written_refused buffer e) refl

pub ruleset ends = (nothing_judged, header_ended, ended_refusal, ended_buffer, wrong_refusal, wrong_buffer)
