-- A run of steps read one by one: the first, and those behind it.
use mathlib.Core.Path.{◌≡◌, refl, ap}
use mathlib.Core.List.{[], ◌∷◌}
use Prim.Native.Nat.{ℕ, zero, suc, ◌+◌, ◌-◌}
use native.Mathlib.Omega.{arith}
use lib.ListN.{length, take, drop}
use Rattle.model.specs.declared.Kind.{Kind}
use Rattle.model.specs.Bytes.{Bytes}
use Rattle.path_bytes.specs.Layout.{entry_length, name_length, step_kind}
use Rattle.path_bytes.specs.Reading.{kind_numbered, steps_at}

pub length_steps : (p : Bytes) (e body n : ℕ) → length (steps_at p e body n) ≡ n
unfolding steps_at
length_steps p e body zero = refl
length_steps p e body (suc n) = ap suc (length_steps p (e + entry_length) (body + name_length p e) n)

module _ (p : Bytes) (entry body count : ℕ) where
  pub steps_none : count ≡ 0 → steps_at p entry body count ≡ []
  unfolding steps_at
  steps_none z = rw z

  pub steps_first : (count ≡ 0 → ⊥) → (size : ℕ) (name : Bytes) (kind : Kind) → size ≡ name_length p entry → name ≡ take size (drop body p) → kind ≡ kind_numbered (step_kind p entry)
      → steps_at p entry body count ≡ record { name = name; kind = kind } ∷ steps_at p (entry + entry_length) (body + size) (count - 1)
  unfolding steps_at
  steps_first n size name kind e f g = rw (f, g, e) (go count n)
    where
      go : (k : ℕ) → (k ≡ 0 → ⊥) → steps_at p entry body k
          ≡ record { name = take (name_length p entry) (drop body p); kind = kind_numbered (step_kind p entry) } ∷ steps_at p (entry + entry_length) (body + name_length p entry) (k - 1)
      go zero n = absurd (n refl)
      go (suc k) n = let d : suc k - 1 ≡ k = omega arith in rw d

pub ruleset read = (steps_none, steps_first)
