-- A reading between two fields: what is left of it decides, with the graph name so far; and its end.
use Rattle.std.proofs.Common.{◌≡◌, sym, ◌∙◌, ◌≤◌, arith, length}
use Rattle.model.specs.Bytes.{Bytes}
use Rattle.model.specs.Reading.{Reading, done}
use Rattle.model.specs.Record.{GraphName, judge}
use Rattle.fields.specs.declared.step.Fields.{Fields}
use Rattle.fields.specs.declared.step.Tally.{Tally}
use Rattle.fields.specs.Rest.{left_of, Tallies}
use Rattle.fields.proofs.Rest.{rest_end}

pub record Ongoing (t : Bytes) (whole : Reading) (so_far : GraphName) (left : Fields) (tally : Tally) : Type 0 where
  pub text : left.text.now ≡ t
  pub sizes : judge so_far ≡ 0
  pub tallies : Tallies left tally
  pub same : whole ≡ left_of left tally.lines so_far

module _ {t : Bytes} {whole : Reading} {so_far : GraphName} {left : Fields} {tally : Tally} (o : Ongoing t whole so_far left tally) where
  -- nothing is left
  pub reading_ends : left.stop ≤ left.at → length left.text.now ≤ left.at → done so_far ≡ whole
  reading_ends h l = sym (o.same ∙ rest_end left.text.now tally.lines left.stop left.at so_far left.source h (omega (arith, left.before)))
