-- Where the first eight bytes differ, their numbers are in the order of the texts.
use mathlib.Core.Path.{◌∙◌}
use Rattle.std.proofs.Common.{rules}
use Rattle.text.proofs.Spelled.{fronts_order}
use Rattle.text.proofs.ordering.compare.Goals as goal

pub returns-then-x-y : goal.returns-then-x-y
returns-then-x-y c =
    let e = c.in-Some-Some in
    c.cmp.ensures
    ∙ fronts_order c.args.a.now c.args.b.now (search rules) (search rules) e.ensures.cases e.ensures'.cases c.from_be_bytes-x.ensures c.from_be_bytes-y.ensures c.if-x-y.true
