-- Strings of zeros: as a fold tests them, as blocks of them do, and as copies of a zero.
use mathlib.Core.Path.{◌≡◌, refl, sym, ap, ap₂, ◌∙◌}
use mathlib.Core.Bool.{Bool, true, false, ◌&&◌}
use mathlib.Core.List.{List, [], ◌∷◌}
use Prim.Native.Nat.{ℕ, zero, suc, ◌*◌}
use native.Mathlib.Omega.{arith}
use native.Mathlib.Nat.{zero-mul, suc-mul, add_comm}
use lib.Dec.{eqb}
use lib.ListN.{length, take, drop, replicate, take-append-drop}
use lib.Seq.{drop-drop}
use borrow.Author.Tests.{eqb-true}
use Rattle.std.specs.List.{fold, list_all, between}
use Rattle.std.specs.Simd.{first_chunks}
use Rattle.std.proofs.lemmas.Slice.{between_to_end}
use Rattle.std.proofs.lemmas.List.Folds.{list_all-append}
use Rattle.std.proofs.lemmas.Bool.{and_parts}
use Rattle.model.specs.Bytes.{Bytes}
use Rattle.text.specs.Blocks.{all_zero}

-- one after another, with no early end
pub zeros_fold : (t : Bool) (s : Bytes) → fold (λ z x. z && eqb x 0) t s ≡ (t && all_zero s)
unfolding all_zero
zeros_fold true [] = refl
zeros_fold false [] = refl
zeros_fold true (x ∷ xs) = zeros_fold (eqb x 0) xs
zeros_fold false (x ∷ xs) = zeros_fold false xs

and_assoc : (s t u : Bool) → ((s && t) && u) ≡ (s && (t && u))
and_assoc true t u = refl
and_assoc false t u = refl

zeros_parts : (n : ℕ) (s : Bytes) → (all_zero (take n s) && all_zero (drop n s)) ≡ all_zero s
unfolding all_zero
zeros_parts n s = rw take-append-drop at (sym (list_all-append (λ (x : ℕ). eqb x 0) (take n s) (drop n s)))

-- k blocks of n bytes, and what follows them
zeros_blocks : (n k : ℕ) (s : Bytes) → (list_all all_zero (first_chunks n k s) && all_zero (drop (k * n) s)) ≡ all_zero s
zeros_blocks n zero s = rw zero-mul refl
zeros_blocks n (suc k) s =
    let front = all_zero (take n s) in
    let e : drop (suc k * n) s ≡ drop (k * n) (drop n s) = rw (suc-mul, drop-drop, add_comm (k * n) n) in
    rw e (and_assoc front _ _ ∙ ap (λ t. front && t) (zeros_blocks n k (drop n s)) ∙ zeros_parts n s)

-- the same of what follows a place, where r says of the blocks whether they are zero
pub zeros_of_blocks : (n k at : ℕ) (b : Bytes) (blocks : List Bytes) (rest : Bytes) (r : Bool) → r ≡ list_all all_zero blocks
    → blocks ≡ first_chunks n k (between at (length b) b) → rest ≡ drop (k * n) (between at (length b) b) → (r && all_zero rest) ≡ all_zero (drop at b)
zeros_of_blocks n k at b blocks rest r h e f =
    let s : between at (length b) b ≡ drop at b = between_to_end b at (length b) (omega arith) in
    rw (h, e, f, s) (zeros_blocks n k (drop at b))

pub zeros_replicate : (n : ℕ) → all_zero (replicate n 0) ≡ true
unfolding all_zero
zeros_replicate zero = refl
zeros_replicate (suc n) = zeros_replicate n

pub zeros_only : (b : Bytes) → all_zero b ≡ true → b ≡ replicate (length b) 0
unfolding all_zero
zeros_only [] h = refl
zeros_only (x ∷ xs) h =
    let p = and_parts (eqb x 0) (all_zero xs) h in
    ap₂ ◌∷◌ (eqb-true x 0 p.0) (zeros_only xs p.1)
