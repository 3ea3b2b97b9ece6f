-- A sum over a list: over a part of its members, none twice, it is no more; and one element put in adds at most its own.
use mathlib.Core.Path.{◌≡◌, refl, sym, ap, ◌∙◌}
use mathlib.Core.Logic.{◌⊎◌, inl, inr, ⊎_elim}
use mathlib.Core.List.Memᴰ
use mathlib.Core.List.{List, [], ◌∷◌, Memᴰ}
use Prim.Native.Nat.{ℕ, ◌+◌, ◌≤◌}
use native.Mathlib.Omega.{arith}
pub use Rattle.std.specs.List.{sum_by as total}
pub use Rattle.std.proofs.lemmas.List.Sums.{sum_by-append as total_append}
use Rattle.std.proofs.lemmas.List.Sums.{sum_by-cons}
use lib.ListN.{length, length-append}
use Rattle.std.specs.declared.cmp.Ordering.{Ordering}
use Rattle.std.specs.declared.cmp.Ordering.TheVariants.{Less, Equal, Greater}
use Rattle.model.specs.Bytes.{Bytes, by_order}
use Rattle.model.specs.Record.{insert, insert_all, bodies}
use Rattle.model.specs.Statements.{Ascending}
use Rattle.text.proofs.Order.{StrictOrder}
use Rattle.text.proofs.Ascending.{ascending_tail, ascending_below, less_irrefl}

-- a count, and a length
pub total_count : {A : Type 0} (xs : List A) → total (λ (x : A). 1) xs ≡ length xs
total_count [] = refl
total_count {A} (x ∷ xs) = omega (arith, total_count xs, sum_by-cons (λ (y : A). 1) x xs)

pub total_bodies : (ns : List Bytes) → total length ns ≡ length (bodies ns)
total_bodies [] = refl
total_bodies (n ∷ ns) = omega (arith, total_bodies ns, length-append n (bodies ns), sum_by-cons length n ns)

module _ {A : Type 0} (cmp : A → A → Ordering) (f : A → ℕ) where
  pub total_insert : (x : A) (ys : List A) → total f (insert cmp x ys) ≤ f x + total f ys
  unfolding insert
  total_insert x [] = omega (arith, sum_by-cons f x [])
  total_insert x (y ∷ ys) = go (cmp x y) (total_insert x ys)
    where
      go : (o : Ordering) → total f (insert cmp x ys) ≤ f x + total f ys → total f (by_order o (x ∷ y ∷ ys) (y ∷ ys) (y ∷ insert cmp x ys)) ≤ f x + total f (y ∷ ys)
      go Less h = omega (arith, sum_by-cons f x (y ∷ ys))
      go Equal h = omega arith
      go Greater h = omega (arith, sum_by-cons f y ys, sum_by-cons f y (insert cmp x ys))

  pub total_insert_all : (xs ys : List A) → total f (insert_all cmp xs ys) ≤ total f xs + total f ys
  unfolding insert_all
  total_insert_all [] ys = omega arith
  total_insert_all (x ∷ xs) ys = omega (arith, total_insert_all xs (insert cmp x ys), total_insert x ys, sum_by-cons f x xs)

-- ------------------------------------------------------------------ a part of the members

-- none twice
abbrev pub Once : {A : Type 0} → List A → Type 0
Once [] = Unit {0}
Once (x ∷ xs) = (Memᴰ x xs → ⊥) × Once xs

pub ascending_once : {A : Type 0} {cmp : A → A → Ordering} → StrictOrder cmp → (xs : List A) → Ascending cmp xs → Once xs
ascending_once ord [] a = tt
ascending_once {A} {cmp} ord (x ∷ xs) a =
    (λ m. less_irrefl ord x (ascending_below ord x xs a x m), ascending_once ord xs (ascending_tail cmp x xs a))

module _ {A : Type 0} (f : A → ℕ) where
  -- all but one x, and every other member
  record Without (x : A) (all : List A) : Type 0 where
    rest : List A
    sum : total f all ≡ f x + total f rest
    keeps : (y : A) → (y ≡ x → ⊥) → Memᴰ y all → Memᴰ y rest

  remove : (x : A) (all : List A) → Memᴰ x all → Without x all
  remove x [] m = absurd (Memᴰ.not-nil m)
  remove x (z ∷ zs) m = go (remove x zs) (Memᴰ.cases_cons m)
    where
      go : (Memᴰ x zs → Without x zs) → (x ≡ z) ⊎ Memᴰ x zs → Without x (z ∷ zs)
      go further (inl e) = record {
        rest = zs;
        sum = omega (arith, ap f e, sum_by-cons f z zs);
        keeps = λ y d w. ⊎_elim (λ (q : y ≡ z). absurd (d (q ∙ sym e))) (λ (q : Memᴰ y zs). q) (Memᴰ.cases_cons w);
      }
      go further (inr m) =
          let r = further m in
          record {
            rest = z ∷ r.rest;
            sum = omega (arith, r.sum, sum_by-cons f z zs, sum_by-cons f z r.rest);
            keeps = λ y d w. ⊎_elim (λ (q : y ≡ z). Memᴰ.head q) (λ (q : Memᴰ y zs). Memᴰ.tail (r.keeps y d q)) (Memᴰ.cases_cons w);
          }

  pub total_part : (xs all : List A) → Once xs → ((y : A) → Memᴰ y xs → Memᴰ y all) → total f xs ≤ total f all
  total_part [] all o h = omega arith
  total_part (x ∷ xs) all o h =
      let r = remove x all (h x (Memᴰ.head refl)) in
      let l : total f xs ≤ total f r.rest =
      total_part xs r.rest o.1 (λ y m. r.keeps y (λ e. o.0 (Memᴰ.cast (sym e) m)) (h y (Memᴰ.tail m))) in
      omega (arith, r.sum, sum_by-cons f x xs)
