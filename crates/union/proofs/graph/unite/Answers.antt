-- The names are joined, and by their numbers the steps are gathered.
use Rattle.std.proofs.Common.{refl, arith}
use Rattle.union.proofs.Uniting.{numbers_fit, joinable, gatherable, united}
use Rattle.union.proofs.graph.unite.Goals as goal

pub split_at_mut-first-requires : goal.split_at_mut-first-requires
split_at_mut-first-requires c =
    let x = c.of-b in
    let y = c.of-c in
    omega (arith, numbers_fit _ _ x.result.holds y.result.holds _ _ x.ensures y.ensures _ _ _ _ c.requires)

pub join-nodes-requires : goal.join-nodes-requires
join-nodes-requires c =
    let x = c.of-b in
    let y = c.of-c in
    joinable _ _ x.result.holds y.result.holds _ _ x.ensures y.ensures _ _ _ _ c.requires _ _ (omega arith) (omega arith)

pub question_steps-count-requires : goal.question_steps-count-requires
question_steps-count-requires c =
    let x = c.of-b in
    let y = c.of-c in
    let j = c.join-nodes in
    gatherable _ _ x.result.holds y.result.holds _ _ x.ensures y.ensures _ _ _ _ c.requires _ _ (omega arith) (omega arith)
    _ _ _ _ j.auto.spans j.auto.first j.auto.second j.ensures

pub returns : goal.returns
returns c =
    let x = c.of-b in
    let y = c.of-c in
    let j = c.join-nodes in
    let s = c.question_steps-count in
    united _ _ x.result.holds y.result.holds _ _ x.ensures y.ensures _ _ _ _ c.requires _ _ (omega arith) (omega arith)
    _ _ _ _ j.auto.spans j.auto.first j.auto.second j.ensures _ _ _ s.auto.steps s.ensures
    _ refl refl refl refl refl refl
