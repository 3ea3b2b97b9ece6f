-- The same where a comma ends a number.
use Rattle.std.proofs.Common.{rules}
use Rattle.std.proofs.lemmas.Iterator.{YieldsList-from_slice}
use Rattle.strict.specs.Number.{next_listed, read_list}
use Rattle.strict.specs.declared.number.Number.TheVariants.{Float}
use Rattle.text.proofs.Folding.{fold_from_try_fold}
use Rattle.strict.proofs.number.Number.accepts_list.Goals as goal

pub returns : goal.returns
unfolding read_list
returns c =
    let e = fold_from_try_fold _ next_listed (λ q x r f k. search rules) (Float) c.try_fold.result _ c.try_fold.ensures.ran (YieldsList-from_slice c.args.v.now cc) in
    search rules
