-- It stands at the place looked at first, or the search tells.
use Rattle.std.proofs.Common.{sym, arith}
use Rattle.sorted.proofs.Search.{found_near}
use Rattle.sorted.proofs.putting.seek_near.Goals as goal

pub returns-then-same-clause-value : goal.returns-then-same-clause-value
returns-then-same-clause-value c =
    let a = c.args in
    found_near a.name.now a.pool.now a.refs.now c.requires a.near (omega arith)
    (rw (c.body.ensures, c.if-same.true) at (sym c.same.ensures))
