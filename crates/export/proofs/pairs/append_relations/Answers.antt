-- The text of the first pair alone, and that of the further ones behind it.
use mathlib.Core.Path.{sym, ◌∙◌}
use Rattle.std.proofs.Common.{arith}
use Rattle.text.proofs.Appending.{appends_as, appends_both, appends_none}
use Rattle.export.proofs.Texts.{relations_text, relations_empty}
use Rattle.export.proofs.pairs.append_relations.Goals as goal

pub returns-in_default : goal.returns-in_default
returns-in_default c = appends_as (sym (relations_empty (sym c.pairs-pairs.ensures.value ∙ c.in_default.ensures.steps.0))) (appends_none _ _ (omega arith))

pub returns : goal.returns
returns c = appends_as (sym (relations_text (sym c.pairs-pairs.ensures.value ∙ c.in-Some.ensures.steps))) (appends_both c.append_pair-p.ensures c.append_pairs.ensures)
