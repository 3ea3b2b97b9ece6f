-- Numbers moved one place up, from the last down: one by one, and in blocks; and a number put into the gap.
use mathlib.Core.Path.{◌≡◌, sym, ap, ◌∙◌}
use mathlib.Core.List.{List, [], ◌∷◌, ◌++◌, append_assoc, append-nil}
use Prim.Native.Nat.{ℕ, suc, ◌+◌, ◌-◌, ◌≤◌, ◌<◌}
use native.Mathlib.Omega.{arith}
use native.Mathlib.Numerals.{add-one}
use lib.ListN.{length, take, drop, set, get_or, take-append-drop, get_or-append}
use lib.Seq.{length-take-le, slice_empty, slice-cons, take-suc, set_at, get_or-take, take-take, drop_at, take-append-le, drop-append-le}
use Rattle.std.proofs.Common.{drop_of_length-le}
use Rattle.std.proofs.lemmas.List.{drop-take}
use Rattle.std.specs.List.{insert, copy_within}
use Rattle.sorted.specs.Sorted.{raised}

-- a part moved one place up
copied : (c : List ℕ) (p i : ℕ) → p ≤ i → copy_within c p i (p + 1) ≡ raised c i p
unfolding raised
copied c p i h =
    let e : p + 1 + (i - p) ≡ i + 1 = omega arith in
    let f : p + (i - p) ≡ i = omega arith in
    let g : drop p (take i c) ≡ take (i - p) (drop p c) = rw f at (drop-take p (i - p) c) in
    rw (e, g) (append_assoc (take (p + 1) c) (take (i - p) (drop p c)) (drop (i + 1) c))

module _ (b : List ℕ) (m : ℕ) (fits : m < length b) where
  pub raised_none : b ≡ raised b m m
  unfolding raised
  raised_none = sym (rw (slice_empty m b) (take-append-drop (m + 1) b))

  raised_get : (i j : ℕ) → i ≤ m → j < i + 1 → get_or (raised b m i) j 0 ≡ get_or b j 0
  unfolding raised
  raised_get i j h l =
      let t = length-take-le (i + 1) b (omega arith) in
      rw (get_or-append (take (i + 1) b) (drop i (take m b) ++ drop (m + 1) b) 0 j (omega arith)) (get_or-take (i + 1) b j 0 l)

  raised_step : (i : ℕ) → i < m → set (raised b m (i + 1)) (i + 1) (get_or b i 0) ≡ raised b m i
  unfolding raised
  raised_step i h =
      let e : i + 1 + 1 ≡ suc (i + 1) = omega arith in
      let f : i + 1 ≡ suc i = omega arith in
      rw (e, take-suc b (i + 1) 0 (omega arith), f, slice-cons i m b 0 h (omega arith))
      (simp append_assoc
      (set_at (take (suc i) b) (get_or b (suc i) 0) (drop (suc i) (take m b) ++ drop (m + 1) b) (get_or b i 0) (suc i) (length-take-le (suc i) b (omega arith))))

  -- one more moved, as the code has it
  pub raised_one : (i : ℕ) (l : List ℕ) → 0 < i → i ≤ m → l ≡ raised b m i → set l (i - 1 + 1) (get_or l (i - 1) 0) ≡ raised b m (i - 1)
  raised_one i l h g e =
      let d : i - 1 + 1 ≡ i = omega arith in
      rw (e, raised_get i (i - 1) g (omega arith), d) (rw d at (raised_step (i - 1) (omega arith)))

  parted : (j p : ℕ) → p ≤ j → j ≤ m → drop p (take m b) ≡ drop p (take j b) ++ drop j (take m b)
  parted j p h k =
      let x = take m b in
      let n = length-take-le j b (omega arith) in
      ap (drop p) (sym (take-append-drop j x)) ∙ rw (take-take j m b k) (drop-append-le p (take j b) (drop j x) (omega arith))

  -- those above place j moved, and then those from p up to there
  pub raised_more : (j p : ℕ) → p ≤ j → j ≤ m → raised (raised b m j) j p ≡ raised b m p
  unfolding raised
  raised_more j p h k =
      let front = take (j + 1) b in
      let rest = drop j (take m b) ++ drop (m + 1) b in
      let n : length front ≡ j + 1 = length-take-le (j + 1) b (omega arith) in
      let first : take (p + 1) (front ++ rest) ≡ take (p + 1) b = take-append-le (p + 1) front rest (omega arith) ∙ take-take (p + 1) (j + 1) b (omega arith) in
      let middle : take j (front ++ rest) ≡ take j b = take-append-le j front rest (omega arith) ∙ take-take j (j + 1) b (omega arith) in
      let back : drop (j + 1) (front ++ rest) ≡ rest = drop_at front rest (j + 1) n in
      rw (first, middle, back, parted j p h k) (simp append_assoc)

  -- a block of n moved, as the code has it
  pub raised_block : (n i : ℕ) (l : List ℕ) → n ≤ i → i ≤ m → l ≡ raised b m i → copy_within l (i - n) (i - n + n) (i - n + 1) ≡ raised b m (i - n)
  raised_block n i l h g e =
      let d : i - n + n ≡ i = omega arith in
      rw (e, d, copied (raised b m i) (i - n) i (omega arith)) (raised_more i (i - n) (omega arith) g)

  -- a number put into the gap
  pub raised_put : (p v : ℕ) → p ≤ m → set (raised b m p) p v ≡ take p b ++ (v ∷ (drop p (take m b) ++ drop (m + 1) b))
  unfolding raised
  raised_put p v h =
      rw (add-one p, take-suc b p 0 (omega arith))
      (simp append_assoc (set_at (take p b) (get_or b p 0) (drop p (take m b) ++ drop (m + 1) b) v p (length-take-le p b (omega arith))))

-- those above place i moved, then those from p on, and a number put into the gap
pub placed : (b c d : List ℕ) (i p v : ℕ) → p ≤ i → i < length b → c ≡ raised b (length b - 1) i → d ≡ raised c i p → set d p v ≡ insert (take (length b - 1) b) p v
placed b c d i p v h l e f =
    let m = length b - 1 in
    let front : take p (take m b) ≡ take p b = take-take p m b (omega arith) in
    let none : drop (m + 1) b ≡ [] = drop_of_length-le b {i = m + 1} (omega arith) in
    rw (f, e, raised_more b m (omega arith) i p h (omega arith), raised_put b m (omega arith) p v (omega arith), front, none) (simp append-nil)
