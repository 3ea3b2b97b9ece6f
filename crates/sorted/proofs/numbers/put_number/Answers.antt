-- The number is there, or goes to its place.
use Rattle.std.proofs.Common.{◌∙◌}
use Rattle.sorted.proofs.Search.{number_there, number_new}
use Rattle.sorted.proofs.numbers.put_number.Goals as goal

pub returns-in_default : goal.returns-in_default
returns-in_default g c =
    let e = rw (c.in_default.is, c.deref.ensures.0) at c.binary_search.ensures in
    number_there c.args.v c.args.a.now.items c.requires.1 c.in_default.field-0 e.bound e.position

pub returns-in-Err : goal.returns-in-Err
returns-in-Err g c =
    let e = rw c.deref.ensures.0 at c.in-Err.ensures in
    c.insert_at.ensures ∙ number_new c.args.v c.args.a.now.items c.requires.1 c.in-Err.p e.bound e.position
