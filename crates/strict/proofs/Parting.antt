-- The end of the first part of a text, and the parts behind it.
use mathlib.Core.Path.{◌≡◌, refl, sym, ap, ◌∙◌}
use mathlib.Core.Bool.{Bool, true, false, cond, not}
use mathlib.Core.List.{[], ◌∷◌, ◌++◌}
use Prim.Native.Nat.{ℕ, suc, ◌+◌, ◌-◌, ◌≤◌, ◌<◌}
use native.Mathlib.Omega.{arith}
use native.Mathlib.Nat.{zero-add}
use lib.Dec.{eqb, ltb}
use lib.ListN.{length, take, drop}
use borrow.Author.Tests.{lt-ltb}
use Rattle.std.specs.Prelude.{Option, Some, None, unwrap_or}
use Rattle.std.specs.List.{position_or_len}
use Rattle.std.proofs.Common.{length-take-le}
use Rattle.std.proofs.lemmas.Bool.Decides.{nat_tests}
use Rattle.std.proofs.lemmas.List.{take-append-drop}
use Rattle.model.specs.Bytes.{Bytes, index_of, split}
use Rattle.text.proofs.Split.{index_within, split_last, split_more}
use Rattle.strict.proofs.Values.{part_to_end}

module _ (x : ℕ) where
  -- the place that `position` finds
  abbrev place : Bytes → Option ℕ
  place s = cond (ltb (position_or_len (λ y. eqb y x) s) (length s)) (Some (position_or_len (λ y. eqb y x) s)) None

  -- the first x is among the near bytes, or it is the first of the far ones
  near_or_far : (near far : Bytes) → index_of x (near ++ far) ≡ unwrap_or (place near) (length near + index_of x far)
  unfolding index_of
  near_or_far [] far = sym (zero-add (index_of x far))
  near_or_far (y ∷ near) far = go (eqb y x) (position_or_len (λ y. eqb y x) near) (near_or_far near far)
    where
      turned : (t : Bool) (p : ℕ) → suc (unwrap_or (cond t (Some p) None) (length near + index_of x far))
          ≡ unwrap_or (cond t (Some (suc p)) None) (suc (length near) + index_of x far)
      turned true p = refl
      turned false p = omega arith

      go : (t : Bool) (p : ℕ) → index_of x (near ++ far) ≡ unwrap_or (cond (ltb p (length near)) (Some p) None) (length near + index_of x far)
          → cond t 0 (suc (index_of x (near ++ far)))
          ≡ unwrap_or (cond (ltb (cond (not t) (1 + p) 0) (suc (length near))) (Some (cond (not t) (1 + p) 0)) None) (suc (length near) + index_of x far)
      go true p e = rw (lt-ltb 0 (suc (length near)) (omega arith))
      go false p e =
          let d : 1 + p ≡ suc p = omega arith in
          let t : ltb (1 + p) (suc (length near)) ≡ ltb p (length near) = grind (arith, nat_tests) in
          rw (e, t, d) (turned (ltb p (length near)) p)

  by_place : (near far : Bytes) (n : ℕ) (r : Option ℕ) → r ≡ place near → n ≡ length near → index_of x (near ++ far) ≡ unwrap_or r (n + index_of x far)
  by_place near far n r e m = near_or_far near far ∙ rw (e, m)

  module _ (n : ℕ) (s : Bytes) (h : n ≤ length s) (r : Option ℕ) (e : r ≡ place (take n s)) where
    whole : index_of x s ≡ unwrap_or r (n + index_of x (drop n s))
    whole = ap (index_of x) (sym (take-append-drop n s)) ∙ by_place (take n s) (drop n s) n r e (sym (length-take-le n s h))

    pub found_near : (k : ℕ) → r ≡ Some k → k ≡ index_of x s
    found_near k f = sym (whole ∙ rw f)

    pub found_far : r ≡ None → n + index_of x (drop n s) ≡ index_of x s
    found_far f = sym (whole ∙ rw f)

module _ (separator : ℕ) (s : Bytes) (end : ℕ) (e : end ≡ index_of separator s) where
  pub end_within : end ≤ length s
  end_within = omega (arith, index_within separator s 0 (omega arith))

  pub parts_last : length s ≤ end → split separator s ≡ take end s ∷ []
  parts_last h = split_last separator s 0 (omega arith) (omega arith) ∙ rw (← e)

  pub parts_more : end < length s → split separator s ≡ take end s ∷ split separator (take (length s - (end + 1)) (drop (end + 1) s))
  parts_more h =
      let z : 0 + end + 1 ≡ end + 1 = omega arith in
      split_more separator s 0 (omega arith) (omega arith) ∙ rw (← e, z, part_to_end (end + 1) s)

  pub end_taken : end ≡ length (take end s)
  end_taken = sym (length-take-le end s end_within)

pub ruleset parting = (end_within, end_taken, parts_last, parts_more)
