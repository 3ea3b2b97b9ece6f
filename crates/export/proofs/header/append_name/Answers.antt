-- Nothing where there is no own name; else three texts, one behind the other.
use mathlib.Core.Path.{ap}
use Rattle.std.proofs.Common.{arith}
use Rattle.model.specs.Writing.{name_line}
use Rattle.text.proofs.Appending.{appends_none, appends_as, appends_both}
use Rattle.export.proofs.header.append_name.Goals as goal

pub returns-in-Some : goal.returns-in-Some
returns-in-Some c =
    appends_as (ap (name_line c.args.before.now) c.in-Some.ensures)
    (appends_both (appends_both c.append-p.ensures c.append-q.ensures) c.append.ensures)

pub returns-in-None : goal.returns-in-None
returns-in-None c = appends_as (ap (name_line c.args.before.now) c.in-None.ensures) (appends_none c.args.out.now 0 (omega arith))
