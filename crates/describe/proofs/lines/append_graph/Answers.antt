-- Four texts, one behind the other.
use Rattle.text.proofs.Appending.{appends_both}
use Rattle.describe.proofs.lines.append_graph.Goals as goal

pub returns : goal.returns
returns c = appends_both (appends_both (appends_both c.append_decimal-p.ensures c.append-q.ensures) c.append-r.ensures) c.append.ensures
