-- The tables are judged as the graph name is.
use Rattle.std.proofs.Common.{arith, ap, sym, ◌∙◌}
use Rattle.model.specs.Record.{GraphName}
use Rattle.tables.proofs.Judge.{judge_tables}
use Rattle.intake.specs.Own.{own_of}
use Rattle.intake.proofs.reading.Reading.judge.Goals as goal

pub returns : goal.returns
returns c =
    let e = c.own_name-own.ensures ∙ sym (ap (λ (g : GraphName). g.name) c.self.view_is) in
    let j = judge_tables c.self.inside.tables (own_of c.self.inside.own) c.self.invariant in
    rw (← c.self.view_is) (grind (arith, e, j))
