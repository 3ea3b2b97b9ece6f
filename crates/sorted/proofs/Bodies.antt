-- Bodies in the pool: one that is appended, and those that stand before it.
use mathlib.Core.Path.{◌≡◌, refl, sym, ap, ap₂, ◌∙◌}
use mathlib.Core.List.{List, [], ◌∷◌, ◌++◌, map, Memᴰ}
use Prim.Native.Nat.{ℕ, ◌+◌, ◌*◌, ◌/◌, ◌%◌, ◌≤◌, ◌<◌}
use native.Mathlib.Omega.{arith}
use lib.ListN.{length, take, drop, length-drop, take-append-drop}
use lib.Seq.{length-take-le, take-append-le, drop-append-le, drop_at, take-append_seam}
use Rattle.model.specs.Bytes.{Bytes, put}
use Rattle.sorted.specs.Tables.{body_in}

-- a part of the first of two lists is not changed by the second
part_front : (u v : Bytes) (s m : ℕ) → s + m ≤ length u → take m (drop s (u ++ v)) ≡ take m (drop s u)
part_front u v s m h = rw (drop-append-le s u v (omega arith)) (take-append-le m (drop s u) v (rw length-drop (omega arith)))

pub body_old : (pool name : Bytes) (at r : ℕ) → at ≤ length pool → r / 65536 + r % 65536 ≤ at → body_in (put pool at name) r ≡ body_in pool r
unfolding put
body_old pool name at r h k =
    let l = length-take-le at pool h in
    part_front (take at pool) (name ++ drop (at + length name) pool) (r / 65536) (r % 65536) (omega arith)
    ∙ sym (part_front (take at pool) (drop at pool) (r / 65536) (r % 65536) (omega arith))
    ∙ ap (λ (b : Bytes). body_in b r) (take-append-drop at pool)

-- the two that a number stands for: start and length of a body, or the places of a pair
pub first_of : (at m : ℕ) → m < 65536 → (at * 65536 + m) / 65536 ≡ at
first_of at m h = omega arith

pub second_of : (at m : ℕ) → m < 65536 → (at * 65536 + m) % 65536 ≡ m
second_of at m h = omega arith

pub body_new : (pool name : Bytes) (at : ℕ) → at ≤ length pool → length name < 65536 → body_in (put pool at name) (at * 65536 + length name) ≡ name
unfolding put
body_new pool name at h k =
    rw (
      first_of at (length name) k,
      second_of at (length name) k,
      drop_at (take at pool) (name ++ drop (at + length name) pool) at (length-take-le at pool h),
    )
    (take-append_seam name (drop (at + length name) pool))

-- maps that agree on the members agree
map_same : {A B : Type 0} (f g : A → B) (xs : List A) → ((x : A) → Memᴰ x xs → f x ≡ g x) → map f xs ≡ map g xs
map_same f g [] h = refl
map_same f g (x ∷ xs) h = ap₂ ◌∷◌ (h x (Memᴰ.head refl)) (map_same f g xs (λ y m. h y (Memᴰ.tail m)))

pub bodies_old : (pool name : Bytes) (at : ℕ) (rs : List ℕ) → at ≤ length pool → ((r : ℕ) → Memᴰ r rs → r / 65536 + r % 65536 ≤ at)
    → map (body_in (put pool at name)) rs ≡ map (body_in pool) rs
bodies_old pool name at rs h w = map_same _ _ rs (λ r m. body_old pool name at r h (w r m))
