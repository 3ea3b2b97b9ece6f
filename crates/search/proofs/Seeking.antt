-- Where a node's steps begin: the first of the steps behind those known to be below.
use mathlib.Core.Path.{◌≡◌}
use mathlib.Core.Logic.{◌⊎◌, inl, inr}
use mathlib.Core.List.{List}
use Prim.Native.Nat.{ℕ, ◌+◌, ◌-◌, ◌≤◌, ◌<◌}
use native.Mathlib.Omega.{arith}
use lib.ListN.{length, get_or, take, drop, length-drop}
use lib.Seq.{get_or-drop, take-length}
use Rattle.std.specs.List.{AllWithin, HoldsAt}
use Rattle.std.proofs.lemmas.Bool.{cases_lt}

pub rest_whole : (s : List ℕ) (e : ℕ) → take (length s - e) (drop e s) ≡ drop e s
rest_whole s e = rw (← length-drop) (take-length (drop e s))

module _ (s : List ℕ) (e y : ℕ) (inside : e ≤ length s) (below : (i : ℕ) → i < e → get_or s i 0 < y) where
  -- those before place k of the rest are below
  pub below_more : (k : ℕ) → AllWithin (λ (x : ℕ). x < y) (drop e s) 0 k → (i : ℕ) → i < e + k → get_or s i 0 < y
  below_more k f i l = go (cases_lt i e)
    where
      go : (i < e) ⊎ (e ≤ i) → get_or s i 0 < y
      go (inl h) = below i h
      go (inr h) =
          let at : e + (i - e) ≡ i = omega arith in
          let it : get_or s (e + (i - e)) 0 < y = rw get_or-drop at (f (i - e) 0 (omega arith) (omega arith)) in
          rw at at it

  -- p is where the first of the rest stands in the whole
  pub first_found : (k p : ℕ) → p ≡ e + k → (k < length (drop e s)) × HoldsAt (λ (x : ℕ). y ≤ x) (drop e s) k × AllWithin (λ (x : ℕ). x < y) (drop e s) 0 k
      → (p ≤ length s) × ((i : ℕ) → i < p → get_or s i 0 < y) × (p < length s → y ≤ get_or s p 0)
  first_found k p p_is f = rw p_is (omega (arith, inside, rw length-drop at f.0), below_more k f.2, λ l. rw get_or-drop at (f.1 0))

  pub none_found : AllWithin (λ (x : ℕ). x < y) (drop e s) 0 (length (drop e s)) → (i : ℕ) → i < length s → get_or s i 0 < y
  none_found f i l = below_more (length (drop e s)) f i (rw length-drop (omega (arith, inside)))
