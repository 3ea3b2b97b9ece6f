-- Two numbers written again; pairs of numbers as bytes, where reading and writing undo each other; and rows that begin with two numbers, of
-- any width.
use mathlib.Core.Path.{◌≡◌, refl, ap}
use mathlib.Core.List.{List, [], ◌∷◌, ◌++◌}
use Prim.Native.Nat.{ℕ, zero, suc, ◌+◌, ◌-◌, ◌*◌, ◌/◌, ◌%◌, ◌≤◌, ◌<◌}
use native.Mathlib.Omega.{arith}
use native.Mathlib.Nat.{add-zero, mul-zero, mul-suc}
use lib.ListN.{length, take, drop, get_or, length-drop}
use lib.Seq.{drop-drop, get_or-drop, take-add}
use Rattle.model.specs.Bytes.{Bytes}
use Rattle.model.specs.Numbers.{le16, number}
use Rattle.model.specs.Layout.{pair_length}
use Rattle.record.specs.Test.{rows_at, pairs_at, Under}
use Rattle.record.specs.Coded.{le_pairs}

-- every entry is a byte
abbrev pub AllBytes : Bytes → Type 0
AllBytes b = (i : ℕ) → get_or b i 0 < 256

pub under_weaken : (m n : ℕ) (ps : List (ℕ × ℕ)) → m ≤ n → Under m ps → Under n ps
unfolding Under
under_weaken m n [] h u = tt
under_weaken m n (p ∷ ps) h u = (omega arith, omega arith, under_weaken m n ps h u.2)

pub whole : (x : ℕ) → x < 65536 → x % 256 + 256 * (x / 256 % 256) ≡ x
whole x h = omega arith

low : (x y : ℕ) → x < 256 → (x + 256 * y) % 256 ≡ x
low x y h = omega arith

high : (x y : ℕ) → x < 256 → y < 256 → (x + 256 * y) / 256 % 256 ≡ y
high x y h k = omega arith

-- the first two numbers of b, written again
pub two_again : (b : Bytes) → AllBytes b → 4 ≤ length b → le16 (number b 0) ++ le16 (number b 2) ≡ take 4 b
two_again [] h k = absurd (omega arith)
two_again (x ∷ []) h k = absurd (omega arith)
two_again (x ∷ y ∷ []) h k = absurd (omega arith)
two_again (x ∷ y ∷ z ∷ []) h k = absurd (omega arith)
two_again (x ∷ y ∷ z ∷ w ∷ r) h k = rw (low x y (h 0), high x y (h 0) (h 1), low z w (h 2), high z w (h 2) (h 3))

pub bytes_drop : (a : ℕ) (b : Bytes) → AllBytes b → AllBytes (drop a b)
bytes_drop a b h i = rw get_or-drop (h (a + i))

-- ------------------------------------------------------------------ pairs

pub length_le_pairs : (ps : List (ℕ × ℕ)) → length (le_pairs ps) ≡ pair_length * length ps
unfolding le_pairs
length_le_pairs [] = refl
length_le_pairs (p ∷ ps) = omega (arith, length_le_pairs ps)

-- reading what was written
pub pairs_read : (ps : List (ℕ × ℕ)) (r : Bytes) → Under 65536 ps → pairs_at (length ps) (le_pairs ps ++ r) ≡ ps
unfolding rows_at le_pairs Under
pairs_read [] r u = refl
pairs_read (p ∷ ps) r u = rw (whole p.0 u.0, whole p.1 u.1, pairs_read ps r u.2)

-- writing what was read
pub pairs_again : (n : ℕ) (b : Bytes) → AllBytes b → pair_length * n ≤ length b → le_pairs (pairs_at n b) ≡ take (pair_length * n) b
unfolding rows_at le_pairs
pairs_again zero b h k = refl
pairs_again (suc n) b h k =
    let e : pair_length * suc n ≡ pair_length + pair_length * n = omega arith in
    let rest = pairs_again n (drop pair_length b) (bytes_drop pair_length b h) (rw length-drop (omega arith)) in
    rw (e, take-add pair_length (pair_length * n) b, ← two_again b h (omega arith), rest)

-- ------------------------------------------------------------------ rows

pub length_rows_at : (w n : ℕ) (b : Bytes) → length (rows_at w n b) ≡ n
unfolding rows_at
length_rows_at w zero b = refl
length_rows_at w (suc n) b = ap suc (length_rows_at w n (drop w b))

-- one step at a place
pub rows_at_step : (w n at : ℕ) (b : Bytes) → rows_at w (suc n) (drop at b) ≡ (number b at, number b (at + 2)) ∷ rows_at w n (drop (at + w) b)
unfolding rows_at
rows_at_step w n at b =
    let e : at + 2 + 1 ≡ at + 3 = omega arith in
    simp (get_or-drop, drop-drop, add-zero, e)

-- rows read one by one: none is left, or the first and one fewer
module _ (w at count : ℕ) (b : Bytes) where
  pub rows_none : count ≡ 0 → rows_at w count (drop at b) ≡ []
  unfolding rows_at
  rows_none z = rw z

  pub rows_first : (count ≡ 0 → ⊥) → (x y : ℕ) → x ≡ number b at → y ≡ number b (at + 2)
      → rows_at w count (drop at b) ≡ (x, y) ∷ rows_at w (count - 1) (drop (at + w) b)
  rows_first n x y e f = rw (e, f) (go count n)
    where
      go : (k : ℕ) → (k ≡ 0 → ⊥) → rows_at w k (drop at b) ≡ (number b at, number b (at + 2)) ∷ rows_at w (k - 1) (drop (at + w) b)
      go zero n = absurd (n refl)
      go (suc k) n = let d : suc k - 1 ≡ k = omega arith in rw d (rows_at_step w k at b)

pub ruleset read = (rows_none, rows_first)

pub under_rows : (w n : ℕ) (b : Bytes) → AllBytes b → Under 65536 (rows_at w n b)
unfolding rows_at Under
under_rows w zero b h = tt
under_rows w (suc n) b h = (omega (arith, h 0, h 1), omega (arith, h 2, h 3), under_rows w n (drop w b) (bytes_drop w b h))

pub get_or_rows_at : (w n at : ℕ) (b : Bytes) (i : ℕ) → i < n
    → get_or (rows_at w n (drop at b)) i (0, 0) ≡ (number b (at + w * i), number b (at + w * i + 2))
get_or_rows_at w zero at b i h = absurd (omega arith)
get_or_rows_at w (suc n) at b zero h = rw (rows_at_step w n at b, mul-zero, add-zero)
get_or_rows_at w (suc n) at b (suc i) h =
    let e : at + w * suc i ≡ at + w + w * i = rw mul-suc (omega arith) in
    rw (rows_at_step w n at b, e) (get_or_rows_at w n (at + w) b i (omega arith))
