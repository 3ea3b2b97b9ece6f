-- The text that what was found decides.
use Rattle.std.proofs.Common.{arith, length}
use Rattle.describe.proofs.Outcomes.{written_forward, written_backward, written_neither, has_path_in, no_path_own_names}
use Rattle.describe.proofs.relationship.describe_found.Goals as goal

pub describe_path-requires : goal.describe_path-requires
describe_path-requires c = has_path_in c.args.b.now c.args.c.now c.args.path.now (rw c.in-Forward.is at c.requires)

pub describe_path-requires-in-Backward : goal.describe_path-requires-in-Backward
describe_path-requires-in-Backward c = has_path_in c.args.c.now c.args.b.now c.args.path.now (rw c.in-Backward.is at c.requires).0

pub own_name-own-requires : goal.own_name-own-requires
own_name-own-requires c = (no_path_own_names c.args.c.now c.args.b.now (rw c.in-Neither.is at c.requires).0).0

pub own_name-other-requires : goal.own_name-other-requires
own_name-other-requires c = (no_path_own_names c.args.c.now c.args.b.now (rw c.in-Neither.is at c.requires).0).1

pub returns-in-Forward : goal.returns-in-Forward
returns-in-Forward c =
    let a = c.args in
    let found = rw c.in-Forward.is at c.requires in
    rw (written_forward a.b.now a.c.now a.descs.from.now a.descs.to.now (length a.out.now) a.path.now found) c.describe_path.ensures

pub returns-in-Backward : goal.returns-in-Backward
returns-in-Backward c =
    let a = c.args in
    let found = rw c.in-Backward.is at c.requires in
    let w = written_backward a.b.now a.c.now a.descs.from.now a.descs.to.now (length a.out.now) a.path.now found.0 found.1 in
    grind (arith, w)

pub returns-in-Neither : goal.returns-in-Neither
returns-in-Neither c =
    let a = c.args in
    let found = rw c.in-Neither.is at c.requires in
    let w = written_neither a.b.now a.c.now a.descs.from.now a.descs.to.now (length a.out.now) found.0 found.1 in
    grind (arith, w)
