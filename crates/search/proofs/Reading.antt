-- The path to a place, read back one step at a time.
use mathlib.Core.Path.{◌≡◌}
use mathlib.Core.List.{List, [], ◌∷◌, ◌++◌}
use Prim.Native.Nat.{ℕ, zero, suc, ◌+◌, ◌≤◌, ◌<◌}
use native.Mathlib.Decide.{ℕ_discrete}
use native.Mathlib.Omega.{arith}
use lib.ListN.{length, length-append}
use Rattle.search.specs.Queue.{prev_at, move_at}
use Rattle.search.specs.Promise.{path_to, Back}
use Rattle.search.proofs.Walk.{path_first, path_step}

module _ (q : List ℕ) (place : ℕ) (back : Back q place) where
  pub back_step : (j : ℕ) → 0 < j → j ≤ place → path_to q j ≡ path_to q (prev_at q j) ++ (move_at q j ∷ [])
  back_step j z l = path_step q (place + 1) (λ i y m. back.falls i y (omega arith)) j z (omega arith)

  pub length_step : (j : ℕ) → 0 < j → j ≤ place → length (path_to q j) ≡ length (path_to q (prev_at q j)) + 1
  length_step j z l = rw (back_step j z l) (simp length-append)

  pub length_first : (j : ℕ) → j ≡ 0 → length (path_to q j) ≡ 0
  length_first j e = rw (e, path_first q)

  length_to : (f j : ℕ) → j < f → j ≤ place → length (path_to q j) ≤ j
  length_to zero j b l = absurd (omega arith)
  length_to (suc f) j b l = go (ℕ_discrete j 0) (length_to f (prev_at q j))
    where
      go : Dec (j ≡ 0) → (prev_at q j < f → prev_at q j ≤ place → length (path_to q (prev_at q j)) ≤ prev_at q j) → length (path_to q j) ≤ j
      go (yes e) rest = omega (arith, length_first j e)
      go (no d) rest =
          let p = back.falls j (omega arith) l in
          omega (arith, length_step j (omega arith) l, rest (omega arith) (omega arith))

  -- a path has no more steps than there are places before
  pub length_low : (j : ℕ) → j ≤ place → length (path_to q j) ≤ j
  length_low j l = length_to (suc j) j (omega arith) l

-- a shorter walk back
pub back_less : (q : List ℕ) (place j : ℕ) → Back q place → j ≤ place → Back q j
back_less q place j back l = record { inside = omega (arith, back.inside); falls = λ i z m. back.falls i z (omega arith) }

-- ------------------------------------------------------------------ how many steps

-- n steps are passed on the way back to place j
pub record Counting (q : List ℕ) (place j n : ℕ) : Type 0 where
  pub low : j ≤ place
  pub sum : n + j ≤ place
  pub is : n + length (path_to q j) ≡ length (path_to q place)

module _ (q : List ℕ) (place : ℕ) (back : Back q place) where
  module _ (j n : ℕ) (c : Counting q place j n) where
    pub counting_next : 0 < j → Counting q place (prev_at q j) (n + 1)
    counting_next z =
        let p = back.falls j z c.low in
        let e = length_step q place back j z c.low in
        record { low = omega (arith, c.low); sum = omega (arith, c.sum); is = omega (arith, c.is) }

    pub counting_end : (0 < j → ⊥) → (n ≡ length (path_to q place)) × (n ≤ place)
    counting_end z = let e : j ≡ 0 = omega arith in (omega (arith, c.is, length_first q place back j e), omega (arith, c.sum))
