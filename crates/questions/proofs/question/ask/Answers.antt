-- Each test decides one case of the definition; then the tables are chosen.
use Rattle.std.proofs.Common.{◌∙◌, sym, refl, length}
use Rattle.std.proofs.lemmas.Result.{err_from_is_err_and}
use Rattle.questions.proofs.Entry.{ask_fault, ask_unnamed, ask_other_unnamed, ask_named}
use Rattle.questions.proofs.question.ask.Goals as goal

pub returns-in_err-b : goal.returns-in_err-b
returns-in_err-b c =
    let p = err_from_is_err_and c.from_residual.result c.from_residual.ensures.1 in
    rw (p.1, p.2, ask_fault _ _ (length c.args.out.now) c.args.question _ (sym c.open_both.ensures ∙ c.in_err-b.was)) (refl, refl)

pub returns-in_default : goal.returns-in_default
returns-in_default c =
    let n = rw c.in_default.is at c.own_place.ensures in
    rw (ask_unnamed _ _ (length c.args.out.now) _ _ (sym c.open_both.ensures ∙ c.in_ok-b.was) c.args.question n) (refl, refl)

pub returns-in_default-own_place : goal.returns-in_default-own_place
returns-in_default-own_place c =
    let n = rw c.in_default-own_place.is at c.own_place-2.ensures in
    rw (ask_other_unnamed _ _ (length c.args.out.now) _ _ (sym c.open_both.ensures ∙ c.in_ok-b.was) c.args.question n) (refl, refl)

pub returns-then-size-le-SMALL_PAIRS : goal.returns-then-size-le-SMALL_PAIRS
returns-then-size-le-SMALL_PAIRS c =
    let m = rw c.in-Some.is at c.own_place.ensures in
    let n = rw c.in-Some-own_place.is at c.own_place-2.ensures in
    rw (ask_named _ _ (length c.args.out.now) _ _ (sym c.open_both.ensures ∙ c.in_ok-b.was) c.args.question _ _ m.1 n.1) c.ask_sized.ensures

pub returns : goal.returns
returns c =
    let m = rw c.in-Some.is at c.own_place.ensures in
    let n = rw c.in-Some-own_place.is at c.own_place-2.ensures in
    rw (ask_named _ _ (length c.args.out.now) _ _ (sym c.open_both.ensures ∙ c.in_ok-b.was) c.args.question _ _ m.1 n.1) c.ask_sized-2.ensures
