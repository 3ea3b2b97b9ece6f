-- The first i steps of the rest stand behind the first n.
use Rattle.std.proofs.Common.{◌≡◌, ◌+◌, ◌++◌, take}
use Rattle.search.proofs.table.append_rest.Given as goal

abbrev pub invariant-loop-i : goal.invariant-loop-i
invariant-loop-i l = record { written : take (l.n + l.i) l.out ≡ take l.n l.fn.out ++ take l.i l.rest }
