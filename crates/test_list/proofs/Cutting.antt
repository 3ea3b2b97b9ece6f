-- Where the first byte of some is, if there is one: what stands before it, and what behind it.
use Rattle.std.proofs.Common.{◌≡◌, ◌∙◌, refl, sym, ℕ, ◌+◌, ◌-◌, ◌≤◌, Bool, true, false, cond, ltb, Option, Some, None, List, length, take, drop, length-drop, arith}
use Rattle.std.proofs.lemmas.Bool.{ltb-false}
use Rattle.std.proofs.Math.ListN.{drop_of_length-le}
use Rattle.std.proofs.Math.Seq.{take_all}
use Rattle.std.specs.List.{position_or_len, before_first, after_first}

module _ (p : ℕ → Bool) (s : List ℕ) where
  abbrev pub place : Option ℕ
  place = cond (ltb (position_or_len p s) (length s)) (Some (position_or_len p s)) None

  found : (k : ℕ) → place ≡ Some k → position_or_len p s ≡ k
  found k e = go (ltb (position_or_len p s) (length s)) e
    where
      go : (t : Bool) → cond t (Some (position_or_len p s)) None ≡ Some k → position_or_len p s ≡ k
      go true e = cc
      go false e = absurd cc

  missed : place ≡ None → length s ≤ position_or_len p s
  missed e = go (ltb (position_or_len p s) (length s)) refl e
    where
      go : (t : Bool) → ltb (position_or_len p s) (length s) ≡ t → cond t (Some (position_or_len p s)) None ≡ None → length s ≤ position_or_len p s
      go true d e = absurd cc
      go false d e = ltb-false (position_or_len p s) (length s) d

  to_end : (k : ℕ) → take (length s - k) (drop k s) ≡ drop k s
  to_end k = take_all (length s - k) (drop k s) (rw length-drop (omega arith))

  pub before_found : (k : ℕ) → place ≡ Some k → take k s ≡ before_first p s
  before_found k e = rw (found k e)

  pub behind_found : (k : ℕ) → place ≡ Some k → take (length s - (k + 1)) (drop (k + 1) s) ≡ after_first p s
  behind_found k e = rw (found k e) (to_end (k + 1))

  pub before_missed : place ≡ None → s ≡ before_first p s
  before_missed e = sym (take_all (position_or_len p s) s (missed e))

  pub behind_missed : place ≡ None → take (length s - length s) (drop (length s) s) ≡ after_first p s
  behind_missed e =
      let l = missed e in
      to_end (length s) ∙ drop_of_length-le s {i = length s} (omega arith) ∙ sym (drop_of_length-le s {i = position_or_len p s + 1} (omega arith))
