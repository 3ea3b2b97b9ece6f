-- Five texts, one behind the other.
use Rattle.text.proofs.Appending.{appends_both}
use Rattle.describe.proofs.lines.append_description.Goals as goal

pub returns : goal.returns
returns c =
    appends_both (appends_both (appends_both (appends_both c.append-p.ensures c.append_decimal-q.ensures) c.append-r.ensures) c.append-s.ensures)
    c.append.ensures
