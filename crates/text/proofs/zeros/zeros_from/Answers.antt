-- The test of the blocks is that of each, and with that of what follows them it is that of the whole.
use Rattle.std.proofs.Common.{rules, tests, ◌∙◌}
use Rattle.std.proofs.lemmas.Iterator.{YieldsList-from_slice}
use Rattle.std.proofs.lemmas.Iterator.Search.{all_from_yields_List}
use Rattle.text.specs.Blocks.{all_zero}
use Rattle.text.proofs.Blocks.{zeros_of_blocks}
use Rattle.text.proofs.zeros.zeros_from.Goals as goal

pub returns-then-all : goal.returns-then-all
returns-then-all c =
    let e = all_from_yields_List all_zero _ _ c.all.result c.all.ensures.ran (YieldsList-from_slice c.as_chunks.result.0.now cc) (λ x b q k. search (rules, tests)) in
    let w = zeros_of_blocks _ _ c.args.at c.args.b.now _ _ _ e c.as_chunks.ensures.front c.as_chunks.ensures.back in
    grind (rules, tests, w)

pub returns-else-all : goal.returns-else-all
returns-else-all c =
    let e = all_from_yields_List all_zero _ _ c.all.result c.all.ensures.ran (YieldsList-from_slice c.as_chunks.result.0.now cc) (λ x b q k. search (rules, tests)) in
    let w = zeros_of_blocks _ _ c.args.at c.args.b.now _ _ _ e c.as_chunks.ensures.front c.as_chunks.ensures.back in
    c.if-all.false ∙ rw c.if-all.false at w
