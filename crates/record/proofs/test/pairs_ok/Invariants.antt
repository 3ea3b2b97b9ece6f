-- Whether all are right is whether the last that was read and those left are.
use Rattle.std.proofs.Common.{◌≡◌, ◌∷◌, drop}
use Rattle.record.specs.Rows.{rows_of}
use Rattle.record.specs.Test.{pairs_at, pairs_ok}
use Rattle.record.proofs.test.pairs_ok.Given as goal

abbrev pub invariant-loop-next : goal.invariant-loop-next
invariant-loop-next l = pairs_ok l.n (pairs_at l.count (drop l.at l.b)) ≡ pairs_ok l.n (l.pair ∷ rows_of l.next-iterator)
