-- Strictly ascending lists over any strict order: their test, insertion into them, its members, and that the members determine
-- the list.
use mathlib.Core.Path.{◌≡◌, refl, sym, ap, ap₂, ◌∙◌}
use mathlib.Core.Logic.{◌⊎◌, inl, inr, ⊎_elim, ◌↔◌}
use mathlib.Core.Bool.{true}
use mathlib.Core.List.Memᴰ
use mathlib.Core.List.{List, [], ◌∷◌, Memᴰ}
use Prim.Native.Nat.{ℕ}
use native.Mathlib.Omega.{arith}
use Rattle.std.specs.declared.cmp.Ordering.{Ordering}
use Rattle.std.specs.declared.cmp.Ordering.TheVariants.{Less, Equal, Greater}
use Rattle.std.proofs.lemmas.Bool.{and_parts}
use Rattle.model.specs.Bytes.{by_order}
use Rattle.model.specs.Record.{insert, insert_all, ascends}
use Rattle.model.specs.Statements.{Ascending}
use Rattle.text.proofs.Tests.{less_true}
use Rattle.text.proofs.Order.{StrictOrder, opposite}

-- x is below every member
abbrev pub Below : {A : Type 0} → (A → A → Ordering) → A → List A → Type 0
Below {A} cmp x xs = (y : A) → Memᴰ y xs → cmp x y ≡ Less

abbrev pub SameMembers : {A : Type 0} → List A → List A → Type 0
SameMembers {A} xs ys = (z : A) → Memᴰ z xs ↔ Memᴰ z ys

module _ {A : Type 0} (cmp : A → A → Ordering) where
  pub ascends_true : (xs : List A) → ascends cmp xs ≡ true ↔ Ascending cmp xs
  unfolding ascends Ascending
  ascends_true [] = (λ e. tt, λ a. refl)
  ascends_true (x ∷ []) = (λ e. tt, λ a. refl)
  ascends_true (x ∷ y ∷ ys) = (
    λ e. let p = and_parts _ _ e in ((less_true (cmp x y)).0 p.0, (ascends_true (y ∷ ys)).0 p.1),
    λ a. rw ((less_true (cmp x y)).1 a.0) ((ascends_true (y ∷ ys)).1 a.1),
  )

  pub ascending_tail : (x : A) (xs : List A) → Ascending cmp (x ∷ xs) → Ascending cmp xs
  unfolding Ascending
  ascending_tail x [] a = tt
  ascending_tail x (y ∷ ys) a = a.1

  pub ascending_cons : (x : A) (xs : List A) → Below cmp x xs → Ascending cmp xs → Ascending cmp (x ∷ xs)
  unfolding Ascending
  ascending_cons x [] b a = tt
  ascending_cons x (y ∷ ys) b a = (b y (Memᴰ.head refl), a)

  -- ------------------------------------------------------------------ members

  pub insert_member : (x : A) (ys : List A) (z : A) → Memᴰ z (insert cmp x ys) → (z ≡ x) ⊎ Memᴰ z ys
  unfolding insert
  insert_member x [] z m = Memᴰ.cases_cons m
  insert_member x (y ∷ ys) z m = go (cmp x y) (insert_member x ys z) m
    where
      further : (z ≡ x) ⊎ Memᴰ z ys → (z ≡ x) ⊎ Memᴰ z (y ∷ ys)
      further (inl e) = inl e
      further (inr m) = inr (Memᴰ.tail m)

      go : (o : Ordering) → (Memᴰ z (insert cmp x ys) → (z ≡ x) ⊎ Memᴰ z ys)
          → Memᴰ z (by_order o (x ∷ y ∷ ys) (y ∷ ys) (y ∷ insert cmp x ys)) → (z ≡ x) ⊎ Memᴰ z (y ∷ ys)
      go Less rest m = Memᴰ.cases_cons m
      go Equal rest m = inr m
      go Greater rest m = ⊎_elim (λ (e : z ≡ y). inr (Memᴰ.head e)) (λ (n : Memᴰ z (insert cmp x ys)). further (rest n)) (Memᴰ.cases_cons m)

  pub insert_keeps : (x : A) (ys : List A) (z : A) → Memᴰ z ys → Memᴰ z (insert cmp x ys)
  unfolding insert
  insert_keeps x [] z m = absurd (Memᴰ.not-nil m)
  insert_keeps x (y ∷ ys) z m = go (cmp x y) (insert_keeps x ys z)
    where
      go : (o : Ordering) → (Memᴰ z ys → Memᴰ z (insert cmp x ys)) → Memᴰ z (by_order o (x ∷ y ∷ ys) (y ∷ ys) (y ∷ insert cmp x ys))
      go Less rest = Memᴰ.tail m
      go Equal rest = m
      go Greater rest = ⊎_elim (λ (e : z ≡ y). Memᴰ.head e) (λ (n : Memᴰ z ys). Memᴰ.tail (rest n)) (Memᴰ.cases_cons m)

-- over a strict order
module _ {A : Type 0} {cmp : A → A → Ordering} (ord : StrictOrder cmp) where
  pub less_irrefl : (x : A) → cmp x x ≡ Less → ⊥
  less_irrefl x e = let z : ◌≡◌ {A = ℕ} 0 1 = cc (ord.refl_equal x) in omega arith

  pub less_asym : (x y : A) → cmp x y ≡ Less → cmp y x ≡ Less → ⊥
  less_asym x y d e = less_irrefl x (ord.trans x y x d e)

  pub greater_less : (x y : A) → cmp x y ≡ Greater → cmp y x ≡ Less
  greater_less x y e = ord.flip x y ∙ ap opposite e

  pub ascending_below : (x : A) (xs : List A) → Ascending cmp (x ∷ xs) → Below cmp x xs
  unfolding Ascending
  ascending_below x [] a z m = absurd (Memᴰ.not-nil m)
  ascending_below x (y ∷ ys) a z m =
      ⊎_elim
      (λ (e : z ≡ y). rw e a.0)
      (λ (n : Memᴰ z ys). ord.trans x y z a.0 (ascending_below y ys a.1 z n))
      (Memᴰ.cases_cons m)

  -- ------------------------------------------------------------------ insertion

  pub insert_self : (x : A) (ys : List A) → Memᴰ x (insert cmp x ys)
  unfolding insert
  insert_self x [] = Memᴰ.head refl
  insert_self x (y ∷ ys) = go (cmp x y) refl (insert_self x ys)
    where
      go : (o : Ordering) → cmp x y ≡ o → Memᴰ x (insert cmp x ys) → Memᴰ x (by_order o (x ∷ y ∷ ys) (y ∷ ys) (y ∷ insert cmp x ys))
      go Less e m = Memᴰ.head refl
      go Equal e m = Memᴰ.head (ord.same x y e)
      go Greater e m = Memᴰ.tail m

  pub insert_members : (x : A) (ys : List A) (z : A) → Memᴰ z (insert cmp x ys) ↔ (z ≡ x) ⊎ Memᴰ z ys
  insert_members x ys z = (insert_member cmp x ys z, ⊎_elim (λ (e : z ≡ x). Memᴰ.cast e (insert_self x ys)) (insert_keeps cmp x ys z))

  pub insert_ascending : (x : A) (ys : List A) → Ascending cmp ys → Ascending cmp (insert cmp x ys)
  unfolding insert
  insert_ascending x [] a = unfold Ascending in tt
  insert_ascending x (y ∷ ys) a = go (cmp x y) refl (insert_ascending x ys (ascending_tail cmp y ys a))
    where
      go : (o : Ordering) → cmp x y ≡ o → Ascending cmp (insert cmp x ys) → Ascending cmp (by_order o (x ∷ y ∷ ys) (y ∷ ys) (y ∷ insert cmp x ys))
      go Less e r = unfold Ascending in (e, a)
      go Equal e r = a
      go Greater e r =
          ascending_cons cmp y (insert cmp x ys)
          (λ z m. ⊎_elim (λ (d : z ≡ x). rw d (greater_less x y e)) (ascending_below y ys a z) (insert_member cmp x ys z m))
          r

  pub insert_present : (x : A) (ys : List A) → Ascending cmp ys → Memᴰ x ys → insert cmp x ys ≡ ys
  unfolding insert
  insert_present x [] a m = absurd (Memᴰ.not-nil m)
  insert_present x (y ∷ ys) a m = go (Memᴰ.cases_cons m) (insert_present x ys (ascending_tail cmp y ys a))
    where
      go : (x ≡ y) ⊎ Memᴰ x ys → (Memᴰ x ys → insert cmp x ys ≡ ys) → by_order (cmp x y) (x ∷ y ∷ ys) (y ∷ ys) (y ∷ insert cmp x ys) ≡ y ∷ ys
      go (inl e) rest = rw (e, ord.refl_equal y)
      go (inr n) rest = rw (ord.flip y x, ascending_below y ys a x n) (ap (◌∷◌ y) (rest n))

  -- ------------------------------------------------------------------ insertion of all

  pub insert_all_ascending : (xs ys : List A) → Ascending cmp ys → Ascending cmp (insert_all cmp xs ys)
  unfolding insert_all
  insert_all_ascending [] ys a = a
  insert_all_ascending (x ∷ xs) ys a = insert_all_ascending xs (insert cmp x ys) (insert_ascending x ys a)

  pub insert_all_members : (xs ys : List A) (z : A) → Memᴰ z (insert_all cmp xs ys) ↔ Memᴰ z xs ⊎ Memᴰ z ys
  unfolding insert_all
  insert_all_members [] ys z = (inr, ⊎_elim (λ (m : Memᴰ z []). absurd (Memᴰ.not-nil m)) (λ (m : Memᴰ z ys). m))
  insert_all_members (x ∷ xs) ys z =
      let one = insert_members x ys z in
      let rest = insert_all_members xs (insert cmp x ys) z in (
        λ m. ⊎_elim
            (λ (n : Memᴰ z xs). inl (Memᴰ.tail n))
            (λ (n : Memᴰ z (insert cmp x ys)). ⊎_elim (λ (e : z ≡ x). inl (Memᴰ.head e)) inr (one.0 n))
            (rest.0 m),
        λ m. rest.1 (⊎_elim
            (λ (n : Memᴰ z (x ∷ xs)). ⊎_elim (λ (e : z ≡ x). inr (one.1 (inl e))) inl (Memᴰ.cases_cons n))
            (λ (n : Memᴰ z ys). inr (one.1 (inr n)))
            m),
      )

  -- ------------------------------------------------------------------ the members determine the list

  tail_member : (x y : A) (xs ys : List A) → x ≡ y → Below cmp x xs → (z : A)
      → (Memᴰ z (x ∷ xs) → Memᴰ z (y ∷ ys)) → Memᴰ z xs → Memᴰ z ys
  tail_member x y xs ys e b z h m =
      ⊎_elim
      (λ (d : z ≡ y). absurd (less_irrefl x (rw (d ∙ sym e) at (b z m))))
      (λ (n : Memᴰ z ys). n)
      (Memᴰ.cases_cons (h (Memᴰ.tail m)))

  pub ascending_unique : (xs ys : List A) → Ascending cmp xs → Ascending cmp ys → SameMembers xs ys → xs ≡ ys
  ascending_unique [] [] a b h = refl
  ascending_unique [] (y ∷ ys) a b h = absurd (Memᴰ.not-nil ((h y).1 (Memᴰ.head refl)))
  ascending_unique (x ∷ xs) [] a b h = absurd (Memᴰ.not-nil ((h x).0 (Memᴰ.head refl)))
  ascending_unique (x ∷ xs) (y ∷ ys) a b h =
      let below = ascending_below x xs a in
      let below' = ascending_below y ys b in
      let e = heads below below' (Memᴰ.cases_cons ((h x).0 (Memᴰ.head refl))) (Memᴰ.cases_cons ((h y).1 (Memᴰ.head refl))) in
      ap₂ ◌∷◌ e
      (ascending_unique xs ys (ascending_tail cmp x xs a) (ascending_tail cmp y ys b)
      (λ z. (tail_member x y xs ys e below z (h z).0, tail_member y x ys xs (sym e) below' z (h z).1)))
    where
      heads : Below cmp x xs → Below cmp y ys → (x ≡ y) ⊎ Memᴰ x ys → (y ≡ x) ⊎ Memᴰ y xs → x ≡ y
      heads below below' (inl e) n = e
      heads below below' (inr m) (inl e) = sym e
      heads below below' (inr m) (inr n) = absurd (less_asym x y (below y n) (below' x m))

  pub insert_all_unique : (xs ys zs : List A) → Ascending cmp ys → Ascending cmp zs
      → ((z : A) → Memᴰ z zs ↔ Memᴰ z xs ⊎ Memᴰ z ys) → insert_all cmp xs ys ≡ zs
  insert_all_unique xs ys zs a b h =
      ascending_unique (insert_all cmp xs ys) zs (insert_all_ascending xs ys a) b
      (λ z. (λ m. (h z).1 ((insert_all_members xs ys z).0 m), λ m. (insert_all_members xs ys z).1 ((h z).0 m)))
