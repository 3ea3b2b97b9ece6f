-- What is written for the path before, and one name more.
use Rattle.std.proofs.Common.{arith}
use Rattle.path_bytes.proofs.Joined.{few_steps, first_fits, names_first, writable_prev, further_fits, names_more}
use Rattle.path_bytes.proofs.written.FoundPath.+put_names.Goals as goal

pub copy-requires : goal.copy-requires
copy-requires g t c =
    omega (arith, first_fits _ _ _ _ _ _ _ c.requires _ c.name-name.ensures.0 c.args.kind c.if-step-eq0.true, c.put_entry.auto.out)

pub returns-then-step-eq0 : goal.returns-then-step-eq0
returns-then-step-eq0 g t c =
    names_first _ _ _ _ _ _ _ c.requires _ c.name-name.ensures.0 _ c.if-step-eq0.true _ _ _ c.put_entry.ensures c.copy.ensures

pub put_names-end-requires : goal.put_names-end-requires
put_names-end-requires g t c _ lives =
    let b = c.before-2.ensures in
    (omega arith, (lives, rw (b.0, b.1, b.2) (writable_prev _ _ _ _ _ _ _ c.requires _ c.name-name.ensures.0 c.args.kind c.if-step-eq0.false)))

pub put_entry-requires-2 : goal.put_entry-requires-2
put_entry-requires-2 g t c = (few_steps _ _ _ _ _ _ _ c.requires, omega arith)

pub copy-requires-2 : goal.copy-requires-2
copy-requires-2 g t c =
    let b = c.before-2.ensures in
    let end = rw (b.0, b.1, b.2) at c.put_names-end.ensures.end in
    let fits = further_fits _ _ _ _ _ _ _ c.requires _ c.name-name.ensures.0 c.args.kind c.if-step-eq0.false _ end in
    omega (arith, fits, c.put_names-end.auto.out, c.put_entry-2.auto.out)

pub returns : goal.returns
returns g t c =
    let b = c.before-2.ensures in
    let before = rw (b.0, b.1, b.2, c.last_kind.ensures) at c.put_names-end.ensures in
    names_more _ _ _ _ _ _ _ c.requires _ c.name-name.ensures.0 _ c.if-step-eq0.false _ _ _ _ _ before c.put_entry-2.ensures c.copy-2.ensures
