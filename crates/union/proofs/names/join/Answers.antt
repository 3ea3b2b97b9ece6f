use Rattle.std.proofs.Common.{◌∙◌, ◌⊎◌, sym, inl, inr, ◌<◌, arith}
use Rattle.model.specs.Layout.{name_count}
use Rattle.union.specs.Names.{Joinable}
use Rattle.union.proofs.Joining.{turn_less, turn_greater, turn_equal}
use Rattle.union.proofs.names.join.Goals as goal
use Rattle.union.proofs.names.join.Goals.{then-i-b, else-i-b+then-j-c, in-Less, in-Greater, in-Equal}

-- one name more
pub loop-i-preserved : goal.loop-i-preserved
loop-i-preserved c =
    let b = c.args.b in
    let d = c.args.c in
    let l = c.loop-i in
    let some : (l.i < name_count b.bytes.now) ⊎ (l.j < name_count d.bytes.now) =
    elim c.if-i-b.branch [ then-i-b w ↦ inl (omega arith) | else-i-b+then-j-c w ↦ inr (omega arith) ] in
    let ready : Joinable b.bytes.now d.bytes.now l.spans l.first l.second =
    record { spans_room = omega arith; first_room = omega arith; second_room = omega arith } in
    let turn = c.compare_next.ensures in
    elim c.match-compare_next.branch [
      | in-Less w ↦
          rw (w.spans-is, w.first-is, w.second-is, w.i-is, w.j-is, w.span.ensures)
          (turn_less _ _ b.holds d.holds _ _ _ _ _ _ l.invariant ready some (sym turn ∙ w.in-Less.is))
      | in-Greater w ↦
          rw (w.spans-is, w.first-is, w.second-is, w.i-is, w.j-is)
          (turn_greater _ _ b.holds d.holds _ _ _ _ _ _ l.invariant ready _ w.span-in-Greater.ensures (sym turn ∙ w.in-Greater.is))
      | in-Equal w ↦
          rw (w.spans-is, w.first-is, w.second-is, w.i-is, w.j-is, w.span-in-Equal.ensures)
          (turn_equal _ _ b.holds d.holds _ _ _ _ _ _ l.invariant ready (sym turn ∙ w.in-Equal.is))
    ]
