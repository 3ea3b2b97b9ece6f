-- The empty record is all zeros.
use Rattle.std.proofs.Common.{ℕ, ap, ◌∙◌, replicate}
use Rattle.parse.proofs.finish.finish.Goals as goal

pub returns-in-Err-clause-buffer : goal.returns-in-Err-clause-buffer
returns-in-Err-clause-buffer c = rw c.in-Err.is (c.fill.ensures.after (λ y e. e) ∙ ap (λ (n : ℕ). replicate n 0) c.requires.room)
