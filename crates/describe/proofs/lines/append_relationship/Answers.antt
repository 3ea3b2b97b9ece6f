-- Five texts, one behind the other.
use Rattle.text.proofs.Appending.{appends_both}
use Rattle.describe.proofs.lines.append_relationship.Goals as goal

pub returns : goal.returns
returns c =
    appends_both
    (appends_both (appends_both (appends_both c.append-p.ensures c.append_decimal-q.ensures) c.append_relation-r.ensures) c.append_decimal-s.ensures)
    c.append.ensures
