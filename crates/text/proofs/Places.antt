-- Lists by place: members and places, the order of an ascending list as the order of places, and maps that keep the order.
use mathlib.Core.Path.{◌≡◌, refl, sym, ap, ◌∙◌}
use mathlib.Core.Logic.{◌⊎◌, inl, inr, ⊎_elim, ◌↔◌}
use mathlib.Core.List.{List, [], ◌∷◌, ◌++◌, map, Memᴰ}
use Prim.Native.Nat.{ℕ, zero, suc, ◌<◌}
use native.Mathlib.Omega.{arith}
use lib.ListN.{length, get_or}
use Rattle.std.specs.declared.cmp.Ordering.{Ordering}
use Rattle.std.specs.declared.cmp.Ordering.TheVariants.{Less, Equal, Greater}
use Rattle.model.specs.Bytes.{by_order, compare_numbers}
use Rattle.model.specs.Record.{ascends}
use Rattle.model.specs.Statements.{Ascending}
use Rattle.text.proofs.Order.{StrictOrder, opposite, compared_numbers}
use Rattle.text.proofs.Ascending.{ascending_tail, ascending_below}

module _ {A : Type 0} (x : A) where
  pub member_cons : (y : A) (ys : List A) → (x ≡ y) ⊎ Memᴰ x ys ↔ Memᴰ x (y ∷ ys)
  member_cons y ys = (⊎_elim mathlib.Core.List.Memᴰ.head mathlib.Core.List.Memᴰ.tail, mathlib.Core.List.Memᴰ.cases_cons)

  pub member_append : (ys zs : List A) → Memᴰ x ys ⊎ Memᴰ x zs ↔ Memᴰ x (ys ++ zs)
  member_append ys zs = (⊎_elim (mathlib.Core.List.Memᴰ.append_left zs) (mathlib.Core.List.Memᴰ.append_right ys), mathlib.Core.List.Memᴰ.append_cases ys)

module _ {A B : Type 0} (f : A → B) where
  pub member_map : (xs : List A) (x : A) → Memᴰ x xs → Memᴰ (f x) (map f xs)
  member_map xs x m = mathlib.Core.List.Memᴰ.map f m

  pub map_member : (xs : List A) (y : B) → Memᴰ y (map f xs) → (x : A) × Memᴰ x xs × (y ≡ f x)
  map_member xs y m = let r = mathlib.Core.List.Memᴰ.of_map f xs m in (r.0, r.1, sym r.2)

module _ {A : Type 0} (d : A) where
  pub get_or_member : (xs : List A) (i : ℕ) → i < length xs → Memᴰ (get_or xs i d) xs
  get_or_member [] i h = absurd (omega arith)
  get_or_member (x ∷ xs) zero h = mathlib.Core.List.Memᴰ.head refl
  get_or_member (x ∷ xs) (suc i) h = mathlib.Core.List.Memᴰ.tail (get_or_member xs i (omega arith))

  pub member_get_or : (xs : List A) (x : A) → Memᴰ x xs → (i : ℕ) × (i < length xs) × (get_or xs i d ≡ x)
  member_get_or [] x m = absurd (mathlib.Core.List.Memᴰ.not-nil m)
  member_get_or (y ∷ ys) x m = go (mathlib.Core.List.Memᴰ.cases_cons m) (member_get_or ys x)
    where
      go : (x ≡ y) ⊎ Memᴰ x ys → (Memᴰ x ys → (i : ℕ) × (i < length ys) × (get_or ys i d ≡ x))
          → (i : ℕ) × (i < length (y ∷ ys)) × (get_or (y ∷ ys) i d ≡ x)
      go (inl e) rest = (0, omega arith, sym e)
      go (inr n) rest = let r = rest n in (suc r.0, omega arith, r.2)

-- a map that keeps the order of the list's members keeps the test
pub ascends_map : {A B : Type 0} (cmp : A → A → Ordering) (cmp' : B → B → Ordering) (f : A → B) (xs : List A)
    → ((x y : A) → Memᴰ x xs → Memᴰ y xs → cmp' (f x) (f y) ≡ cmp x y) → ascends cmp' (map f xs) ≡ ascends cmp xs
unfolding ascends
ascends_map cmp cmp' f [] h = refl
ascends_map cmp cmp' f (x ∷ []) h = refl
ascends_map cmp cmp' f (x ∷ y ∷ ys) h =
    rw (
      h x y (mathlib.Core.List.Memᴰ.head refl) (mathlib.Core.List.Memᴰ.tail (mathlib.Core.List.Memᴰ.head refl)),
      ascends_map cmp cmp' f (y ∷ ys) (λ u v m n. h u v (mathlib.Core.List.Memᴰ.tail m) (mathlib.Core.List.Memᴰ.tail n)),
    )

module _ {A : Type 0} {cmp : A → A → Ordering} (ord : StrictOrder cmp) (d : A) where
  pub ascending_get_or : (xs : List A) (i j : ℕ) → Ascending cmp xs → i < j → j < length xs → cmp (get_or xs i d) (get_or xs j d) ≡ Less
  ascending_get_or xs i zero a h k = absurd (omega arith)
  ascending_get_or [] i (suc j) a h k = absurd (omega arith)
  ascending_get_or (x ∷ xs) zero (suc j) a h k = ascending_below ord x xs a (get_or xs j d) (get_or_member d xs j (omega arith))
  ascending_get_or (x ∷ xs) (suc i) (suc j) a h k = ascending_get_or xs i j (ascending_tail cmp x xs a) (omega arith) (omega arith)

  -- elements compare as their places do
  pub ascending_places : (xs : List A) (i j : ℕ) → Ascending cmp xs → i < length xs → j < length xs
      → cmp (get_or xs i d) (get_or xs j d) ≡ compare_numbers i j
  ascending_places xs i j a h k = go (compare_numbers i j) refl (compared_numbers i j)
    where
      go : (o : Ordering) → compare_numbers i j ≡ o → by_order (compare_numbers i j) (i < j) (i ≡ j) (j < i) → cmp (get_or xs i d) (get_or xs j d) ≡ o
      go Less e c = ascending_get_or xs i j a (rw e at c) k
      go Equal e c = let q : i ≡ j = rw e at c in rw q (ord.refl_equal (get_or xs j d))
      go Greater e c = ord.flip (get_or xs j d) (get_or xs i d) ∙ ap opposite (ascending_get_or xs j i a (rw e at c) h)
