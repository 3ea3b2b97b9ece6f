-- The text is written if it fits.
use Rattle.std.proofs.Common.{rules}
use Rattle.model.specs.Written.{message_written}
use Rattle.export.proofs.message.error_message.Goals as goal

pub returns : goal.returns
unfolding message_written
returns c = let w = c.write_text.ensures _ (λ out size after p. search rules) in record { size = w.size; output = w.output }
