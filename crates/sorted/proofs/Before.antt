-- What stands before the place of an element in an ascending list: those that are less, and no others.
use mathlib.Core.Path.{◌≡◌, refl}
use mathlib.Core.Bool.{Bool, true, false}
use mathlib.Core.List.{List, [], ◌∷◌}
use Prim.Native.Nat.{ℕ, zero, suc, ◌≤◌, ◌<◌}
use native.Mathlib.Omega.{arith}
use lib.ListN.{length, get_or}
use lib.Dec.{leb}
use borrow.Author.Tests.{leb-true, leb-false}
use Rattle.std.specs.declared.cmp.Ordering.{Ordering}
use Rattle.std.specs.declared.cmp.Ordering.TheVariants.{Less, Equal, Greater}
use Rattle.model.specs.Bytes.{by_order}
use Rattle.model.specs.Statements.{Ascending}
use Rattle.text.proofs.Order.{StrictOrder}
use Rattle.text.proofs.Ascending.{ascending_tail, ascending_below}
use Rattle.text.proofs.Places.{get_or_member, ascending_get_or}
use Rattle.sorted.specs.Sorted.{lower}

-- those before the place are less
pub before_less : {A : Type 0} (cmp : A → A → Ordering) (x d : A) (xs : List A) (i : ℕ) → i < lower cmp x xs → cmp (get_or xs i d) x ≡ Less
unfolding lower
before_less cmp x d [] i h = absurd (omega arith)
before_less {A} cmp x d (y ∷ ys) i h = go (cmp y x) refl i h (before_less cmp x d ys)
  where
    go : (o : Ordering) → cmp y x ≡ o → (i : ℕ) → i < by_order o (suc (lower cmp x ys)) 0 0
        → ((j : ℕ) → j < lower cmp x ys → cmp (get_or ys j d) x ≡ Less) → cmp (get_or (y ∷ ys) i d) x ≡ Less
    go Less e zero h rest = e
    go Less e (suc j) h rest = rest j (omega arith)
    go Equal e i h rest = absurd (omega arith)
    go Greater e i h rest = absurd (omega arith)

module _ {A : Type 0} {cmp : A → A → Ordering} (ord : StrictOrder cmp) (d x : A) where
  -- one that is less stands before the place
  pub less_before : (xs : List A) (i : ℕ) → Ascending cmp xs → i < length xs → cmp (get_or xs i d) x ≡ Less → i < lower cmp x xs
  unfolding lower
  less_before [] i a h e = absurd (omega arith)
  less_before (y ∷ ys) zero a h e = rw e (omega arith)
  less_before (y ∷ ys) (suc i) a h e =
      let m = ascending_below ord y ys a (get_or ys i d) (get_or_member d ys i (omega arith)) in
      let r = less_before ys i (ascending_tail cmp y ys a) (omega arith) e in
      rw (ord.trans y (get_or ys i d) x m e) (omega arith)

  -- one that is not stands behind it
  pub not_before : (xs : List A) (i : ℕ) → (cmp (get_or xs i d) x ≡ Less → ⊥) → lower cmp x xs ≤ i
  not_before xs i n = go (leb (lower cmp x xs) i) refl
    where
      go : (t : Bool) → leb (lower cmp x xs) i ≡ t → lower cmp x xs ≤ i
      go true e = leb-true (lower cmp x xs) i e
      go false e = absurd (n (before_less cmp x d xs i (leb-false (lower cmp x xs) i e)))

  -- the place of one that is there
  pub lower_at : (xs : List A) (i : ℕ) → Ascending cmp xs → i < length xs → cmp (get_or xs i d) x ≡ Equal → lower cmp x xs ≡ i
  lower_at xs i a h e =
      let upper = not_before xs i (λ l. let z : ◌≡◌ {A = ℕ} 0 1 = cc in omega arith) in
      go i upper h e
    where
      go : (j : ℕ) → lower cmp x xs ≤ j → j < length xs → cmp (get_or xs j d) x ≡ Equal → lower cmp x xs ≡ j
      go zero u h e = omega arith
      go (suc j) u h e =
          let l = rw (ord.same (get_or xs (suc j) d) x e) at (ascending_get_or ord d xs j (suc j) a (omega arith) h) in
          let b = less_before xs j a (omega arith) l in
          omega arith
