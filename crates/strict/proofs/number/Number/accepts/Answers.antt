-- Each byte leads from a state to the next, as the definition has it, and in the last one the number may end.
use Rattle.std.proofs.Common.{rules}
use Rattle.std.proofs.lemmas.Iterator.{YieldsList-from_slice}
use Rattle.strict.specs.Number.{next, read}
use Rattle.text.proofs.Folding.{fold_from_try_fold}
use Rattle.strict.proofs.number.Number.accepts.Goals as goal

pub returns : goal.returns
unfolding read
returns c =
    let e = fold_from_try_fold _ next (λ q x r f k. search rules) c.args.self c.try_fold.result _ c.try_fold.ensures.ran (YieldsList-from_slice c.args.v.now cc) in
    search rules
