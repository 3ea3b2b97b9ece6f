-- The records are united, and the path is found between the nodes of their own names.
use Rattle.std.proofs.Common.{ap}
use Rattle.questions.proofs.Answering.{question_tables, replies}
use Rattle.questions.proofs.question.ask_in.Goals as goal

pub find_path-requires : goal.find_path-requires
find_path-requires c =
    let u = c.unite-united in
    let n = c.new-graph.ensures in
    question_tables _ _ _ _ c.requires.0 _ u.ensures _ _ c.from-from.ensures c.from-target.ensures _ c.requires.1 _ u.auto.rows _ _ (ap (λ s. s.now) n.0) n.1

pub returns : goal.returns
returns c =
    let u = c.unite-united in
    let n = c.new-graph.ensures in
    replies _ _ _ _ c.requires.0 _ u.ensures _ _ c.from-from.ensures c.from-target.ensures _ c.requires.1 _ u.auto.rows _ _ (ap (λ s. s.now) n.0) n.1
    c.args.out.now _ _ c.find_path.ensures
