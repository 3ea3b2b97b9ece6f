-- A value that fits its output is written there.
use mathlib.Core.Path.{◌≡◌, ap}
use mathlib.Core.Bool.{true}
use Rattle.std.specs.Prelude.{Option, Some}
use Prim.Native.Nat.{ℕ, ◌<◌}
use native.Mathlib.Omega.{arith}
use lib.ListN.{length}
use borrow.Author.Tests.{leb-true}
use Rattle.model.specs.Bytes.{Bytes}
use Rattle.model.specs.Questions.{mapped}
use Rattle.model.specs.Written.{fits, put_value}
use Rattle.text.specs.Appending.{Appends}
use Rattle.text.proofs.Appending.{appended}
use Rattle.export.proofs.Texts.{relations_none, relations_some}
use Rattle.export.specs.Texts.{value_text}

-- its size, and what the output then holds
pub record IsWritten (value : Option Bytes) (out : Bytes) (r : ℕ) (o : Bytes) : Type 0 where
  pub size : Some r ≡ mapped length value
  pub output : o ≡ put_value value out

pub value_written : {value : Option Bytes} {out t : Bytes} {r : ℕ} {o : Bytes} → value ≡ Some t → Appends out 0 (value_text value) r o
    → fits value (length out) ≡ true → length out < 18446744073709551615 → IsWritten value out r o
value_written {value} {out} {t} {r} {o} e v f k = rw e (go (rw e at v) (rw e at f))
  where
    go : Appends out 0 t r o → fits (Some t) (length out) ≡ true → IsWritten (Some t) out r o
    go v f = let w = appended v (leb-true (length t) (length out) f) (omega arith) in record { size = ap Some w.0; output = w.1 }

pub ruleset relations = (relations_none, relations_some, value_written)
