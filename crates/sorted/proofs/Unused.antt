-- Tables that hold nothing are in order, and show the empty graph name.
use mathlib.Core.Path.{refl}
use mathlib.Core.List.Memᴰ
use mathlib.Core.List.{List, []}
use Rattle.std.specs.Prelude.{None}
use Prim.Native.Nat.{ℕ}
use native.Mathlib.Omega.{arith}
use Rattle.model.specs.Record.{names, insert_all}
use Rattle.model.specs.Statements.{Ascending}
use Rattle.record.specs.Test.{Under}
use Rattle.sorted.specs.Tables.{fresh, KeptPairs, Kept}
use Rattle.sorted.specs.Loading.{Good}

no_pairs : (xs : List ℕ) → KeptPairs 0 0 xs
unfolding Ascending Under
no_pairs xs = record { order = tt; under = tt; within = omega arith }

pub fresh_kept : Kept fresh
unfolding Ascending
fresh_kept = record {
  order = tt;
  short = refl;
  within = λ r m. absurd (Memᴰ.not-nil m);
  total = refl;
  count = omega arith;
  room = omega arith;
  few = omega arith;
  small = omega arith;
  subgraph = no_pairs [];
  translation = no_pairs [];
}

pub fresh_good : Good None fresh
unfolding names insert_all
fresh_good = record { kept = fresh_kept; used = refl }
