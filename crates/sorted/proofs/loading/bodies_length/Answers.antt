-- No names, or the end of the last.
use mathlib.Core.Path.{sym, ◌∙◌}
use Rattle.sorted.proofs.Loaded.{none_end, last_end}
use Rattle.sorted.proofs.loading.bodies_length.Goals as goal

pub returns-then-n-eq0 : goal.returns-then-n-eq0
returns-then-n-eq0 c = sym (none_end c.args.b.now c.requires.0 (sym c.requires.1 ∙ c.if-n-eq0.true))

pub returns : goal.returns
returns c = rw (c.body_start.ensures.0, c.body_length.ensures.0) (last_end c.args.b.now c.requires.0 c.args.n c.requires.1 c.if-n-eq0.false)
