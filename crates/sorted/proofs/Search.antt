-- What std's binary search answers among the numbers of a table, and among the names that they stand for; and putting a number in.
use mathlib.Core.Path.{◌≡◌, sym, ◌∙◌}
use mathlib.Core.Bool.{true}
use mathlib.Core.List.{List, [], map, map-id}
use Prim.Native.Nat.{ℕ, ◌≤◌, ◌<◌}
use lib.ListN.{length, take, get_or, length-map, get_or-map}
use lib.Seq.{length-take-le}
use Rattle.std.specs.Prelude.{Result, Ok, Err}
use Rattle.std.specs.List.{insert as inserted}
use Rattle.std.specs.List.Sorted.{IsBinarySearchResult, IsSearchInRange}
use Rattle.std.specs.Ordering.{nat_cmp}
use Rattle.model.specs.Bytes.{Bytes, compare_numbers, compare_bytes, same_bytes}
use Rattle.model.specs.Record.{insert}
use Rattle.model.specs.Statements.{Ascending}
use Rattle.text.proofs.Order.{numbers_order, bytes_order, same_bytes_true}
use Rattle.sorted.specs.Sorted.{sought}
use Rattle.sorted.specs.Tables.{body_in, names_in}
use Rattle.sorted.proofs.Lower.{found, missing, sought_ok, searched}

-- ------------------------------------------------------------------ numbers

module _ (v : ℕ) (a : List ℕ) (asc : Ascending compare_numbers a) where
  numbers_searched : (r : Result ℕ ℕ) → IsSearchInRange r (length a) → IsBinarySearchResult (λ y. nat_cmp y v) a r → r ≡ sought compare_numbers v a
  unfolding compare_numbers
  numbers_searched r h e = rw map-id at (searched numbers_order (λ (n : ℕ). n) 0 v a r (rw map-id asc) h e)

  -- it is there
  pub number_there : (p : ℕ) → p < length a → IsBinarySearchResult (λ y. nat_cmp y v) a (Ok p) → a ≡ insert compare_numbers v a
  number_there p h e = sym (found numbers_order 0 v a p (numbers_searched (Ok p) h e)).insert

  -- it is not, and is put in at its place
  pub number_new : (p : ℕ) → p ≤ length a → IsBinarySearchResult (λ y. nat_cmp y v) a (Err p) → inserted a p v ≡ insert compare_numbers v a
  number_new p h e = sym (missing numbers_order 0 v a p (numbers_searched (Err p) h e)).insert

-- ------------------------------------------------------------------ names

pub length_names : (pool : Bytes) (n : ℕ) (refs : List ℕ) → n ≤ length refs → length (names_in pool n refs) ≡ n
length_names pool n refs h = length-map (take n refs) (body_in pool) ∙ length-take-le n refs h

module _ (name pool : Bytes) (refs : List ℕ) (asc : Ascending compare_bytes (map (body_in pool) refs)) where
  pub names_searched : (r : Result ℕ ℕ) → IsSearchInRange r (length refs) → IsBinarySearchResult (λ y. compare_bytes (body_in pool y) name) refs r
      → r ≡ sought compare_bytes name (map (body_in pool) refs)
  names_searched r h e = searched bytes_order (body_in pool) 0 name refs r asc h e

  -- a name that is at a place is found there
  pub found_near : (p : ℕ) → p < length refs → same_bytes (body_in pool (get_or refs p 0)) name ≡ true → Ok p ≡ sought compare_bytes name (map (body_in pool) refs)
  found_near p h e =
      sought_ok bytes_order [] name (map (body_in pool) refs) p asc (rw length-map h)
      (rw (get_or-map (body_in pool) refs p 0, (same_bytes_true (body_in pool (get_or refs p 0)) name).0 e)
      (bytes_order.refl_equal name))
