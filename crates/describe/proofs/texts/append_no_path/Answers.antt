-- Five texts, one behind the other.
use Rattle.text.proofs.Appending.{appends_both}
use Rattle.describe.proofs.texts.append_no_path.Goals as goal

pub returns : goal.returns
returns c =
    appends_both
    (appends_both (appends_both (appends_both c.append_description-p.ensures c.append_description-q.ensures) c.append-r.ensures) c.append_own_graph-s.ensures)
    c.append_own_graph.ensures
