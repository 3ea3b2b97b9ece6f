-- The first x is among the bytes that are near, or else it is the first of those behind them.
use Rattle.std.proofs.Common.{◌∙◌, eqb, rules, tests, arith, take}
use Rattle.std.proofs.lemmas.Iterator.{YieldsList-from_slice}
use Rattle.std.proofs.lemmas.Iterator.Search.{position_from_yields_List}
use Rattle.strict.proofs.Parting.{found_near, found_far}
use Rattle.strict.proofs.parts.end_of_part.Goals as goal

pub returns-in-Some : goal.returns-in-Some
returns-in-Some c =
    found_near c.args.x c.min-near.result c.args.s.now (omega (arith, c.min-near.ensures)) c.position.result
    (position_from_yields_List (λ y. eqb y c.args.x) _ _ c.position.result c.position.ensures.ran (YieldsList-from_slice (take c.min-near.result c.args.s.now) cc)
    (λ x b q k. search (rules, tests)))
    c.in-Some.end c.in-Some.is

pub returns-in-None : goal.returns-in-None
returns-in-None c =
    c.find_byte.ensures
    ∙ found_far c.args.x c.min-near.result c.args.s.now (omega (arith, c.min-near.ensures)) c.position.result
    (position_from_yields_List (λ y. eqb y c.args.x) _ _ c.position.result c.position.ensures.ran (YieldsList-from_slice (take c.min-near.result c.args.s.now) cc)
    (λ x b q k. search (rules, tests)))
    c.in-None.is
