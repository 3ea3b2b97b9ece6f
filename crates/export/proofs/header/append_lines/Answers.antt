-- Three texts, one behind the other: the line of the own name and the lines of the pairs of each kind.
use mathlib.Core.Path.{sym}
use Rattle.text.proofs.Appending.{appends_as, appends_both}
use Rattle.export.proofs.Texts.{header_parts}
use Rattle.export.proofs.header.append_lines.Goals as goal

pub returns : goal.returns
returns c =
    let f = c.args.format in
    appends_as (sym (header_parts f.name.now f.subgraph.now f.translation.now f.between c.args.graph.now))
    (appends_both (appends_both c.append_name-p.ensures (rw c.pairs.ensures.value at c.append_pairs-q.ensures)) (rw c.pairs-2.ensures.value at c.append_pairs.ensures))
