-- An element put in at a place: the lists that are read off element by element.
use mathlib.Core.Path.{◌≡◌, refl, ap}
use mathlib.Core.List.Memᴰ
use mathlib.Core.List.{List, [], ◌∷◌, map, Memᴰ}
use mathlib.Core.Logic.{◌⊎◌, inl, inr, ⊎_elim}
use Prim.Native.Nat.{ℕ, zero, suc, ◌+◌, ◌≤◌}
use native.Mathlib.Omega.{arith}
use lib.ListN.{length, length-append}
use Rattle.std.specs.List.{insert as inserted}
use Rattle.model.specs.Bytes.{Bytes}
use Rattle.model.specs.Record.{bodies}

module _ {A : Type 0} (x : A) where
  pub inserted_member : (p : ℕ) (xs : List A) (z : A) → p ≤ length xs → Memᴰ z (inserted xs p x) → (z ≡ x) ⊎ Memᴰ z xs
  inserted_member zero xs z h m = Memᴰ.cases_cons m
  inserted_member (suc p) [] z h m = absurd (omega arith)
  inserted_member (suc p) (y ∷ ys) z h m =
      ⊎_elim
      (λ (e : z ≡ y). inr (Memᴰ.head e))
      (λ (n : Memᴰ z (inserted ys p x)). ⊎_elim inl (λ (k : Memᴰ z ys). inr (Memᴰ.tail k)) (inserted_member p ys z (omega arith) n))
      (Memᴰ.cases_cons m)

  pub map_inserted : {B : Type 0} (f : A → B) (p : ℕ) (xs : List A) → p ≤ length xs → map f (inserted xs p x) ≡ inserted (map f xs) p (f x)
  map_inserted f zero xs h = refl
  map_inserted f (suc p) [] h = absurd (omega arith)
  map_inserted f (suc p) (y ∷ ys) h = ap (◌∷◌ (f y)) (map_inserted f p ys (omega arith))

pub length_bodies_inserted : (n : Bytes) (p : ℕ) (ns : List Bytes) → p ≤ length ns → length (bodies (inserted ns p n)) ≡ length (bodies ns) + length n
length_bodies_inserted n zero ns h = rw (length-append n (bodies ns)) (omega arith)
length_bodies_inserted n (suc p) [] h = absurd (omega arith)
length_bodies_inserted n (suc p) (m ∷ ns) h =
    rw (length-append m (bodies (inserted ns p n)), length-append m (bodies ns), length_bodies_inserted n p ns (omega arith)) (omega arith)
