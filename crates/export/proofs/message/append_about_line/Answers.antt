-- Three texts, one behind the other.
use Rattle.text.proofs.Appending.{appends_both}
use Rattle.export.proofs.message.append_about_line.Goals as goal

pub returns : goal.returns
returns c = appends_both (appends_both c.append-p.ensures c.append_decimal-q.ensures) c.append.ensures
