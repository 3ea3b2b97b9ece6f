-- The fold says of each byte what the definition says of all.
use Rattle.std.proofs.Common.{rules, tests, ◌&&◌, Bool, ℕ, true, eqb, ◌∙◌}
use Rattle.std.proofs.lemmas.Iterator.{YieldsList-from_slice}
use Rattle.std.proofs.lemmas.Iterator.Consumers.{fold_from_yields_List}
use Rattle.text.proofs.Blocks.{zeros_fold}
use Rattle.text.proofs.zeros.is_zero.Goals as goal

pub returns : goal.returns
returns c =
    fold_from_yields_List _ (λ (t : Bool) (x : ℕ). t && eqb x 0) true c.fold.result c.fold.ensures.ran (YieldsList-from_slice c.args.s.now cc) (λ a x b q k. search (rules, tests))
    ∙ zeros_fold true c.args.s.now
