-- What the buffer shows is written if it fits.
use Rattle.std.proofs.Common.{rules}
use Rattle.model.specs.Questions.{asked}
use Rattle.export.specs.Texts.{lines_written}
use Rattle.export.proofs.header.write_lines.Goals as goal

pub returns : goal.returns
unfolding lines_written asked
returns c =
    let w = c.write_text.ensures _ (λ out size after p. search rules) in
    rw (← c.in_ok-graph.ensures) record { size = w.size; output = w.output }
