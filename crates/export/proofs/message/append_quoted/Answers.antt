-- Three texts, one behind the other.
use Rattle.text.proofs.Appending.{appends_both}
use Rattle.export.proofs.message.append_quoted.Goals as goal

pub returns : goal.returns
returns c = appends_both c.append-p.ensures c.append.ensures
