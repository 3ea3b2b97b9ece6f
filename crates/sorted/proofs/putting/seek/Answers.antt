-- The library's search, by the names that the numbers stand for.
use Rattle.std.proofs.Common.{rules}
use Rattle.std.proofs.lemmas.Fn.{always_returns_same}
use Rattle.model.specs.Bytes.{compare_bytes}
use Rattle.sorted.specs.Tables.{body_in}
use Rattle.sorted.proofs.Search.{names_searched}
use Rattle.sorted.proofs.putting.seek.Goals as goal

pub returns-clause-value : goal.returns-clause-value
returns-clause-value c =
    let a = c.args in
    let b = c.binary_search_by in
    names_searched a.name.now a.pool.now a.refs.now c.requires b.result b.ensures.bound
    (b.ensures.position (λ r. compare_bytes (body_in a.pool.now r) a.name.now) (always_returns_same _ _ _ (λ x r f h. search rules)))
