-- A byte string appended in blocks, and what is left behind them.
use mathlib.Core.Path.{◌≡◌, refl, ap}
use mathlib.Core.List.{List, ◌++◌, append_assoc}
use Prim.Native.Nat.{ℕ, zero, suc, ◌+◌, ◌*◌, ◌<◌}
use native.Mathlib.Omega.{arith}
use native.Mathlib.Nat.{zero-mul, suc-mul, add_comm}
use native.Mathlib.Numerals.{add-one}
use lib.ListN.{take, drop, get_or, take-append-drop}
use lib.Seq.{drop-drop, take-add}
use Rattle.std.specs.Simd.{first_chunks}
use Rattle.model.specs.Bytes.{Bytes}

-- the block at a place
chunk_at : (n k i : ℕ) (s d : Bytes) → i < k → get_or (first_chunks n k s) i d ≡ take n (drop (i * n) s)
chunk_at n zero i s d h = absurd (omega arith)
chunk_at n (suc k) zero s d h = rw zero-mul refl
chunk_at n (suc k) (suc i) s d h =
    let e : drop (suc i * n) s ≡ drop (i * n) (drop n s) = rw (suc-mul, drop-drop, add_comm (i * n) n) in
    rw e (chunk_at n k i (drop n s) d (omega arith))

module _ (n k i : ℕ) (old s : Bytes) {v w : Bytes} (before : v ≡ old ++ take (i * n) s) where
  -- one block more
  pub chunk_more : (blocks : List Bytes) (d : Bytes) → i < k → blocks ≡ first_chunks n k s → w ≡ v ++ get_or blocks i d → w ≡ old ++ take ((i + 1) * n) s
  chunk_more blocks d h e f =
      let g : take ((i + 1) * n) s ≡ take (i * n) s ++ take n (drop (i * n) s) = rw (add-one i, suc-mul) (take-add (i * n) n s) in
      rw (f, before, e, chunk_at n k i s d h, g) (append_assoc old (take (i * n) s) (take n (drop (i * n) s)))

  -- and what is left
  pub chunks_all : (rest : Bytes) → i ≡ k → rest ≡ drop (k * n) s → w ≡ v ++ rest → w ≡ old ++ s
  chunks_all rest h e f = rw (f, before, e, h, append_assoc) (ap (◌++◌ old) (take-append-drop (k * n) s))
