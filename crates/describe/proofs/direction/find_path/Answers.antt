-- With room for every path, a reply tells the direction.
use mathlib.Core.Path.{ap, ◌∙◌}
use Rattle.std.proofs.Common.{Ok}
use Rattle.std.proofs.lemmas.Result.{err_from_is_err_and}
use Rattle.describe.proofs.Finding.{refused_fault, not_found, path_found, no_fault}
use Rattle.describe.proofs.direction.find_path.Goals as goal

pub returns-in_err-translates_to : goal.returns-in_err-translates_to
returns-in_err-translates_to c =
    let a = c.args in
    let p = err_from_is_err_and c.from_residual.result c.from_residual.ensures.1 in
    rw (p.1, p.2) (refused_fault a.b.now a.c.now a.path.now _ c.translates_to.new.out c.requires c.translates_to.ensures _ c.in_err-translates_to.was)

pub returns-then-branch : goal.returns-then-branch
returns-then-branch c =
    let a = c.args in
    path_found a.b.now a.c.now a.path.now _ c.translates_to.new.out c.requires c.translates_to.ensures (c.in_ok-translates_to.was ∙ ap Ok c.if-branch.true)
    (c.translates_to.auto.out ∙ c.requires)

pub returns-in_err-translates_to-2 : goal.returns-in_err-translates_to-2
returns-in_err-translates_to-2 c =
    let a = c.args in
    let there = c.translates_to in
    let back = c.translates_to-2 in
    let apart = not_found a.b.now a.c.now a.path.now _ there.new.out c.requires there.ensures (c.in_ok-translates_to.was ∙ ap Ok c.if-branch.false) in
    let fault = refused_fault a.c.now a.b.now there.new.out _ back.new.out (there.auto.out ∙ c.requires) back.ensures _ c.in_err-translates_to-2.was in
    absurd (no_fault a.c.now a.b.now apart.h apart.g apart.second apart.first _ fault)

pub returns-then-branch-2 : goal.returns-then-branch-2
returns-then-branch-2 c =
    let a = c.args in
    let there = c.translates_to in
    let back = c.translates_to-2 in
    let size = there.auto.out ∙ c.requires in (
      path_found a.c.now a.b.now there.new.out _ back.new.out size back.ensures (c.in_ok-translates_to-2.was ∙ ap Ok c.if-branch-2.true)
          (back.auto.out ∙ size),
      not_found a.b.now a.c.now a.path.now _ there.new.out c.requires there.ensures (c.in_ok-translates_to.was ∙ ap Ok c.if-branch.false),
    )

pub returns : goal.returns
returns c =
    let a = c.args in
    let there = c.translates_to in
    let back = c.translates_to-2 in (
      not_found a.c.now a.b.now there.new.out _ back.new.out (there.auto.out ∙ c.requires) back.ensures (c.in_ok-translates_to-2.was ∙ ap Ok c.if-branch-2.false),
      not_found a.b.now a.c.now a.path.now _ there.new.out c.requires there.ensures (c.in_ok-translates_to.was ∙ ap Ok c.if-branch.false),
    )
