-- What a writer promises: a text appended to an output at a place, the place counted on past the end of the output.
use Rattle.std.specs.Prelude.{◌≡◌, ℕ, ◌+◌, ◌-◌, ◌≤◌, length}
use Rattle.model.specs.Bytes.{Bytes, put}

-- n, or the largest usize where n is larger
abbrev pub capped : ℕ → ℕ
capped n = 18446744073709551615 - (18446744073709551615 - n)

-- t is appended at `at`: r is the place behind it, and o the output then, with t in it if t fits
pub record Appends (out : Bytes) (at : ℕ) (t : Bytes) (r : ℕ) (o : Bytes) : Type 0 where
  pub place : r ≡ capped (at + length t)
  pub kept : length o ≡ length out
  pub output : at + length t ≤ capped (length out) → o ≡ put out at t
