-- Five texts, one behind the other.
use Rattle.text.proofs.Appending.{appends_both}
use Rattle.describe.proofs.texts.append_path.Goals as goal

pub returns : goal.returns
returns c =
    appends_both
    (appends_both (appends_both (appends_both c.append_description-p.ensures c.append_relationships-q.ensures) (rw c.len.ensures.0 at c.append_description-r.ensures)) c.append-s.ensures)
    c.append_graphs.ensures
