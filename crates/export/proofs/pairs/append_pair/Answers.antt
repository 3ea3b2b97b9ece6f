-- The two names and what stands around them: five texts, one behind the other.
use Rattle.text.proofs.Appending.{appends_both}
use Rattle.export.proofs.pairs.append_pair.Goals as goal

pub returns : goal.returns
returns c = appends_both (appends_both (appends_both (appends_both c.append-p.ensures c.append-q.ensures) c.append_byte-r.ensures) c.append-s.ensures) c.append.ensures
