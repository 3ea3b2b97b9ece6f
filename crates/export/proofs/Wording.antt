-- No number but 1 to 10 has a text.
use mathlib.Core.Path.{◌≡◌, refl}
use mathlib.Core.List.{[]}
use Prim.Native.Nat.{ℕ, ◌≤◌, ◌<◌}
use native.Mathlib.Omega.{arith}
use borrow.Author.Tests.{ne_eqb}
use Rattle.model.specs.Bytes.{Bytes}
use Rattle.model.specs.Message.{error_message}

pub no_message : (number line : ℕ) (part : Bytes) → (1 ≤ number → 10 < number) → error_message number line part ≡ []
unfolding error_message
no_message number line part h =
    rw (
      ne_eqb number 1 (λ e. omega (arith, h (omega arith))),
      ne_eqb number 2 (λ e. omega (arith, h (omega arith))),
      ne_eqb number 3 (λ e. omega (arith, h (omega arith))),
      ne_eqb number 4 (λ e. omega (arith, h (omega arith))),
      ne_eqb number 5 (λ e. omega (arith, h (omega arith))),
      ne_eqb number 6 (λ e. omega (arith, h (omega arith))),
      ne_eqb number 7 (λ e. omega (arith, h (omega arith))),
      ne_eqb number 8 (λ e. omega (arith, h (omega arith))),
      ne_eqb number 9 (λ e. omega (arith, h (omega arith))),
      ne_eqb number 10 (λ e. omega (arith, h (omega arith))),
    )
    refl
