-- The names passed have numbers, and every name that has a number comes before those that are left (`Joining`).
use Rattle.std.proofs.Common.{◌+◌, ◌-◌}
use Rattle.union.proofs.Joining.{Joining}
use Rattle.union.proofs.names.join.Given as goal

abbrev pub invariant-loop-i : goal.invariant-loop-i
invariant-loop-i l = Joining l.b.bytes.now l.c.bytes.now l.spans l.first l.second l.i l.j l.v

abbrev pub decreases-loop-i : goal.decreases-loop-i
decreases-loop-i l = l.b.count + l.c.count - (l.i + l.j)
