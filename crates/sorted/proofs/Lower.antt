-- A search in an ascending list: what it answers is the element's place, or the place where it is put in; and so std's binary search answers.
use mathlib.Core.Path.{◌≡◌, refl, ap, ◌∙◌}
use mathlib.Core.List.{List, [], ◌∷◌, map}
use Prim.Native.Nat.{ℕ, zero, suc, ◌≤◌, ◌<◌}
use native.Mathlib.Omega.{arith}
use lib.ListN.{length, get_or, length-map, get_or-map}
use lib.Dec.{ltb}
use mathlib.Core.Bool.{Bool, true, false}
use borrow.Author.Tests.{ltb-true, ltb-false}
use Rattle.std.specs.Prelude.{Result, Ok, Err}
use Rattle.std.specs.List.{insert as inserted}
use Rattle.std.specs.List.Sorted.{IsBinarySearchResult, IsSearchInRange}
use Rattle.std.specs.Ordering.{ordering_index}
use Rattle.std.specs.declared.cmp.Ordering.{Ordering}
use Rattle.std.specs.declared.cmp.Ordering.TheVariants.{Less, Equal, Greater}
use Rattle.model.specs.Bytes.{by_order}
use Rattle.model.specs.Record.{insert}
use Rattle.model.specs.Statements.{Ascending}
use Rattle.text.proofs.Order.{StrictOrder, opposite}
use Rattle.text.proofs.Ascending.{ascending_tail, ascending_below}
use Rattle.text.proofs.Places.{get_or_member, ascending_get_or}
use Rattle.sorted.specs.Sorted.{lower, one_on, sought}

pub lower_le : {A : Type 0} (cmp : A → A → Ordering) (x : A) (xs : List A) → lower cmp x xs ≤ length xs
unfolding lower
lower_le cmp x [] = omega arith
lower_le cmp x (y ∷ ys) = go (cmp y x) (lower_le cmp x ys)
  where
    go : (o : Ordering) → lower cmp x ys ≤ length ys → by_order o (suc (lower cmp x ys)) 0 0 ≤ length (y ∷ ys)
    go Less h = omega arith
    go Equal h = omega arith
    go Greater h = omega arith

-- ------------------------------------------------------------------ what an answer says

-- of an element that is there: its place
pub record Found {A : Type 0} (cmp : A → A → Ordering) (d x : A) (xs : List A) (p : ℕ) : Type 0 where
  pub place : p ≡ lower cmp x xs
  pub within : p < length xs
  pub there : get_or xs p d ≡ x
  pub insert : insert cmp x xs ≡ xs

-- of one that is not: where it is put in
pub record Missing {A : Type 0} (cmp : A → A → Ordering) (x : A) (xs : List A) (p : ℕ) : Type 0 where
  pub place : p ≡ lower cmp x xs
  pub within : p ≤ length xs
  pub insert : insert cmp x xs ≡ inserted xs p x

module _ {A : Type 0} {cmp : A → A → Ordering} (ord : StrictOrder cmp) (d x : A) where
  pub found : (xs : List A) (p : ℕ) → Ok p ≡ sought cmp x xs → Found cmp d x xs p
  unfolding sought lower insert
  found [] p e = cc
  found (y ∷ ys) p e = go (cmp y x) refl (sought cmp x ys) (found ys) p e
    where
      go : (o : Ordering) → cmp y x ≡ o → (r : Result ℕ ℕ) → ((q : ℕ) → Ok q ≡ r → Found cmp d x ys q)
          → (p : ℕ) → Ok p ≡ by_order o (one_on r) (Ok 0) (Err 0) → Found cmp d x (y ∷ ys) p
      go Less c (Ok q) rest p e =
          let f = rest q refl in
          let s : p ≡ suc q = cc in
          rw s
          (record {
            place = rw c (ap suc f.place);
            within = omega (arith, f.within);
            there = f.there;
            insert = rw (ord.flip y x, c) (ap (◌∷◌ y) f.insert);
          })
      go Less c (Err q) rest p e = cc
      go Equal c r rest p e =
          let s : p ≡ 0 = cc in
          rw s (record { place = rw c; within = omega arith; there = ord.same y x c; insert = rw (ord.flip y x, c) })
      go Greater c r rest p e = cc

  pub missing : (xs : List A) (p : ℕ) → Err p ≡ sought cmp x xs → Missing cmp x xs p
  unfolding sought lower insert
  missing [] p e = let s : p ≡ 0 = cc in rw s (record { place = refl; within = omega arith; insert = refl })
  missing (y ∷ ys) p e = go (cmp y x) refl (sought cmp x ys) (missing ys) p e
    where
      go : (o : Ordering) → cmp y x ≡ o → (r : Result ℕ ℕ) → ((q : ℕ) → Err q ≡ r → Missing cmp x ys q)
          → (p : ℕ) → Err p ≡ by_order o (one_on r) (Ok 0) (Err 0) → Missing cmp x (y ∷ ys) p
      go Less c (Ok q) rest p e = cc
      go Less c (Err q) rest p e =
          let f = rest q refl in
          let s : p ≡ suc q = cc in
          rw s (record { place = rw c (ap suc f.place); within = omega (arith, f.within); insert = rw (ord.flip y x, c) (ap (◌∷◌ y) f.insert) })
      go Equal c r rest p e = cc
      go Greater c r rest p e =
          let s : p ≡ 0 = cc in
          rw s (record { place = rw c; within = omega arith; insert = rw (ord.flip y x, c) })

-- ------------------------------------------------------------------ std's binary search

module _ {A : Type 0} {cmp : A → A → Ordering} (ord : StrictOrder cmp) (d x : A) where
  pub sought_ok : (xs : List A) (p : ℕ) → Ascending cmp xs → p < length xs → cmp (get_or xs p d) x ≡ Equal → Ok p ≡ sought cmp x xs
  unfolding sought
  sought_ok [] p a h e = absurd (omega arith)
  sought_ok (y ∷ ys) zero a h e = rw e
  sought_ok (y ∷ ys) (suc q) a h e =
      let l = rw (ord.same (get_or ys q d) x e) at (ascending_below ord y ys a (get_or ys q d) (get_or_member d ys q (omega arith))) in
      rw l (ap one_on (sought_ok ys q (ascending_tail cmp y ys a) (omega arith) e))

  sought_err : (xs : List A) (p : ℕ) → p ≤ length xs → ((k : ℕ) → k < p → cmp (get_or xs k d) x ≡ Less)
      → ((k : ℕ) → p ≤ k → k < length xs → cmp (get_or xs k d) x ≡ Greater) → Err p ≡ sought cmp x xs
  unfolding sought
  sought_err [] p h less greater = let e : p ≡ 0 = omega arith in rw e
  sought_err (y ∷ ys) zero h less greater = rw (greater 0 (omega arith) (omega arith))
  sought_err (y ∷ ys) (suc q) h less greater =
      rw (less 0 (omega arith))
      (ap one_on (sought_err ys q (omega arith) (λ k l. less (suc k) (omega arith)) (λ k l m. greater (suc k) (omega arith) (omega arith))))

  -- the answers of an ascending list rise
  rising : (xs : List A) → Ascending cmp xs → (i j : ℕ) (e : A) → i ≤ j → j < length xs → ordering_index (cmp (get_or xs i e) x) ≤ ordering_index (cmp (get_or xs j e) x)
  rising xs a i j e h k = go (ltb i j) refl
    where
      rise : (u v : A) → cmp u v ≡ Less → (o : Ordering) → cmp u x ≡ o → ordering_index o ≤ ordering_index (cmp v x)
      rise u v l Less c = omega arith
      rise u v l Equal c = rw (ord.flip x v, rw (ord.same u x c) at l) (omega arith)
      rise u v l Greater c = rw (ord.flip x v, ord.trans x u v (ord.flip u x ∙ ap opposite c) l) (omega arith)

      go : (t : Bool) → ltb i j ≡ t → ordering_index (cmp (get_or xs i e) x) ≤ ordering_index (cmp (get_or xs j e) x)
      go true l = rise (get_or xs i e) (get_or xs j e) (ascending_get_or ord e xs i j a (ltb-true i j l) k) (cmp (get_or xs i e) x) refl
      go false l = let s : i ≡ j = omega (arith, ltb-false i j l) in rw s (omega arith)

-- of the elements that a function makes of those searched
module _ {A X : Type 0} {cmp : A → A → Ordering} (ord : StrictOrder cmp) (f : X → A) (d : X) (x : A) where
  pub searched : (xs : List X) (r : Result ℕ ℕ) → Ascending cmp (map f xs) → IsSearchInRange r (length xs) → IsBinarySearchResult (λ y. cmp (f y) x) xs r
      → r ≡ sought cmp x (map f xs)
  searched xs (Ok p) a h e = sought_ok ord (f d) x (map f xs) p a (rw length-map h) (rw (get_or-map f xs p d) (e d))
  searched xs (Err p) a h e =
      let s = e (λ i j c l m. rw (get_or-map f xs i c, get_or-map f xs j c) at (rising ord (f d) x (map f xs) a i j (f c) l (rw length-map m))) in
      sought_err ord (f d) x (map f xs) p (rw length-map h)
      (λ k l. rw (get_or-map f xs k d) (s.0 k d (omega arith) l))
      (λ k l m. rw (get_or-map f xs k d) (s.1 k d l (rw length-map at m)))
