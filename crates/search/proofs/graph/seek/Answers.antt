-- The first of the rest that is not below, or none.
use Rattle.std.proofs.Common.{rules, ◌∙◌, ◌≤◌, ◌<◌, ◌*◌, ℕ, drop, arith}
use borrow.Author.Tests.{tests}
use Rattle.std.proofs.lemmas.Iterator.{IsFirst-from_position, YieldsList-from_slice}
use Rattle.search.specs.Steps.{max_moves}
use Rattle.search.proofs.Seeking.{rest_whole, first_found, none_found}
use Rattle.search.proofs.graph.seek.Goals as goal

pub returns-in-Some : goal.returns-in-Some
returns-in-Some c =
    let y = c.args.node * max_moves in
    let f = IsFirst-from_position _ _ c.position.result (λ (x : ℕ). y ≤ x) (λ (x : ℕ). x < y) c.position.ensures.ran (YieldsList-from_slice (drop c.args.e c.args.steps.now) (c.iter.ensures.rest ∙ rest_whole c.args.steps.now c.args.e))
    (λ x q k. search (rules, tests)) (λ x q k. search (rules, tests)) in
    first_found c.args.steps.now c.args.e y c.requires.0 c.requires.1 c.in-Some.more _ (grind arith) (rw c.in-Some.is at f)

pub returns-in-None : goal.returns-in-None
returns-in-None c =
    let y = c.args.node * max_moves in
    let f = IsFirst-from_position _ _ c.position.result (λ (x : ℕ). y ≤ x) (λ (x : ℕ). x < y) c.position.ensures.ran (YieldsList-from_slice (drop c.args.e c.args.steps.now) (c.iter.ensures.rest ∙ rest_whole c.args.steps.now c.args.e))
    (λ x q k. search (rules, tests)) (λ x q k. search (rules, tests)) in
    (omega arith, none_found c.args.steps.now c.args.e y c.requires.0 c.requires.1 (rw c.in-None.is at f), λ l. absurd (omega arith))
