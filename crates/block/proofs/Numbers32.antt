-- Numbers of four bytes: written and read, read and written again, and read from a place on.
use mathlib.Core.Path.{◌≡◌, refl, ap, ap₂, ◌∙◌}
use mathlib.Core.List.{[], ◌∷◌, ◌++◌}
use Prim.Native.Nat.{ℕ, ◌+◌, ◌≤◌, ◌<◌}
use native.Mathlib.Omega.{arith}
use native.Mathlib.Nat.{add-zero}
use lib.ListN.{length, take, drop, get_or}
use lib.Seq.{get_or-drop}
use Rattle.model.specs.Bytes.{Bytes}
use Rattle.model.specs.Numbers.{le32, number32}

pub number32_le32 : (n : ℕ) (r : Bytes) → n < 4294967296 → number32 (le32 n ++ r) 0 ≡ n
number32_le32 n r h = omega arith

pub le32_again : (b : Bytes) → ((i : ℕ) → get_or b i 0 < 256) → 4 ≤ length b → le32 (number32 b 0) ≡ take 4 b
le32_again [] h l = absurd (omega arith)
le32_again (x ∷ []) h l = absurd (omega arith)
le32_again (x ∷ y ∷ []) h l = absurd (omega arith)
le32_again (x ∷ y ∷ z ∷ []) h l = absurd (omega arith)
le32_again (x ∷ y ∷ z ∷ w ∷ r) h l =
    let hx : x < 256 = h 0 in
    let hy : y < 256 = h 1 in
    let hz : z < 256 = h 2 in
    let hw : w < 256 = h 3 in
    ap₂ ◌∷◌ (omega arith) (ap₂ ◌∷◌ (omega arith) (ap₂ ◌∷◌ (omega arith) (ap₂ ◌∷◌ (omega arith) refl)))

-- the number at byte k of what follows `at`
number32_behind : (b : Bytes) (at k : ℕ) → number32 (drop at b) k ≡ number32 b (at + k)
number32_behind b at k =
    let e : at + (k + 1) ≡ at + k + 1 = omega arith in
    let f : at + (k + 2) ≡ at + k + 2 = omega arith in
    let g : at + (k + 2 + 1) ≡ at + k + 2 + 1 = omega arith in
    rw (get_or-drop at b k 0, get_or-drop at b (k + 1) 0, get_or-drop at b (k + 2) 0, get_or-drop at b (k + 2 + 1) 0, e, f, g)

pub number32_drop : (b : Bytes) (at : ℕ) → number32 (drop at b) 0 ≡ number32 b at
number32_drop b at = number32_behind b at 0 ∙ ap (number32 b) (add-zero at)

pub number32_drop_4 : (b : Bytes) (at : ℕ) → number32 (drop at b) 4 ≡ number32 b (at + 4)
number32_drop_4 b at = number32_behind b at 4
