-- Bytes moved within a block: what it holds beside a text that was written into it, a turn of each loop that moves, and bytes where they stand.
use mathlib.Core.Path.{◌≡◌, sym, ◌∙◌}
use mathlib.Core.List.{[], ◌∷◌, ◌++◌, append_assoc}
use Prim.Native.Nat.{ℕ, suc, ◌+◌, ◌-◌, ◌≤◌, ◌<◌}
use native.Mathlib.Omega.{arith}
use native.Mathlib.Numerals.{add-one}
use lib.ListN.{length, take, drop, set, get_or, length-drop, drop_of_length-le, take-append-drop, get_or-append}
use lib.Seq.{drop-drop, length-take-le, get_or-take, get_or-drop, drop-cons, set-append_left, take-set-lt, take-suc-set}
use Rattle.model.specs.Bytes.{Bytes, put}
use Rattle.text.proofs.Put.{put_none, put_copy, drop_put}

module _ (b : Bytes) (at : ℕ) (t : Bytes) (fits : at + length t ≤ length b) where
  -- before the text
  pub get_or_put_front : (k : ℕ) → k < at → get_or (put b at t) k 0 ≡ get_or b k 0
  unfolding put
  get_or_put_front k h =
      let n = length-take-le at b (omega arith) in
      get_or-append (take at b) (t ++ drop (at + length t) b) 0 k (omega arith) ∙ get_or-take at b k 0 h

  -- behind the text
  pub get_or_put_back : (k : ℕ) → at + length t ≤ k → get_or (put b at t) k 0 ≡ get_or b k 0
  get_or_put_back k h =
      let z : at + length t + (k - (at + length t)) + 0 ≡ k = omega arith in
      let d = drop_put b at t fits (k - (at + length t)) in
      rw z at (rw (d, get_or-drop) at (sym (get_or-drop (at + length t + (k - (at + length t))) (put b at t) 0 0)))

-- one more byte before a text
pub put_cons : (b : Bytes) (at : ℕ) (t : Bytes) (x : ℕ) → at + 1 + length t ≤ length b → set (put b (at + 1) t) at x ≡ put b at (x ∷ t)
unfolding put
put_cons b at t x h =
    let r = t ++ drop (suc at + length t) b in
    let n = length-take-le (suc at) b (omega arith) in
    let e : at + suc (length t) ≡ suc at + length t = omega arith in
    let front : set (take (suc at) b) at x ≡ take at b ++ (x ∷ []) = sym (take-set-lt (suc at) b at x (omega arith)) ∙ take-suc-set b at x (omega arith) in
    rw (add-one at, e, set-append_left (take (suc at) b) r at x (omega arith), front) (append_assoc (take at b) (x ∷ []) r)

-- n bytes of b
abbrev part : Bytes → ℕ → ℕ → Bytes
part b from n = take n (drop from b)

pub length_part : (b : Bytes) (from n : ℕ) → from + n ≤ length b → length (part b from n) ≡ n
length_part b from n fits = length-take-le n (drop from b) (rw length-drop (omega arith))

-- bytes where they stand
pub stands : (b : Bytes) (at n : ℕ) → at + n ≤ length b → b ≡ put b at (take n (drop at b))
unfolding put
stands b at n fits =
    let e : drop (at + n) b ≡ drop n (drop at b) = sym (drop-drop n at b) in
    sym (rw (length_part b at n fits, e, take-append-drop n (drop at b)) (take-append-drop at b))

module _ (b : Bytes) (from n : ℕ) (fits : from + n ≤ length b) where
  part_at : (k : ℕ) → k < n → get_or (part b from n) k 0 ≡ get_or b (from + k) 0
  part_at k h = get_or-take n (drop from b) k 0 h ∙ get_or-drop from b k 0

  -- nothing moved yet
  pub up_none : (to : ℕ) → b ≡ put b (to + n) (drop n (part b from n))
  up_none to = sym (rw (drop_of_length-le (part b from n) {i = n} (rw (length_part b from n fits) (omega arith))) (put_none b (to + n)))

  up_step : (to : ℕ) (o : Bytes) (j : ℕ) → from ≤ to → to + n ≤ length b → j < n → o ≡ put b (to + (j + 1)) (drop (j + 1) (part b from n))
      → set o (to + j) (get_or o (from + j) 0) ≡ put b (to + j) (drop j (part b from n))
  up_step to o j le h k e =
      let p = part b from n in
      let l : length (drop (j + 1) p) ≡ n - (j + 1) = rw (length-drop, length_part b from n fits) in
      let g = get_or_put_front b (to + (j + 1)) (drop (j + 1) p) (omega arith) (from + j) (omega arith) in
      let v : get_or o (from + j) 0 ≡ get_or p j 0 = rw e (g ∙ sym (part_at j k)) in
      let d : drop j p ≡ get_or p j 0 ∷ drop (j + 1) p = rw add-one (drop-cons p j 0 (rw (length_part b from n fits) k)) in
      let a : to + j + 1 ≡ to + (j + 1) = omega arith in
      rw (v, e, d) (rw a at (put_cons b (to + j) (drop (j + 1) p) (get_or p j 0) (omega arith)))

  -- a turn of the move towards the end
  pub up_turn : (to : ℕ) (o : Bytes) (i : ℕ) → from ≤ to → to + n ≤ length b → 0 < i → i ≤ n → o ≡ put b (to + i) (drop i (part b from n))
      → set o (to + (i - 1)) (get_or o (from + (i - 1)) 0) ≡ put b (to + (i - 1)) (drop (i - 1) (part b from n))
  up_turn to o i le h p k e =
      let q : i - 1 + 1 ≡ i = omega arith in
      up_step to o (i - 1) le h (omega arith) (rw q e)

  -- a turn of the move towards the start
  pub down_turn : (to : ℕ) (o : Bytes) (i : ℕ) → to ≤ from → i < n → o ≡ put b to (take i (part b from n))
      → set o (to + i) (get_or o (from + i) 0) ≡ put b to (take (i + 1) (part b from n))
  down_turn to o i le k e =
      let p = part b from n in
      let l : length (take i p) ≡ i = length-take-le i p (rw (length_part b from n fits) (omega arith)) in
      let g = get_or_put_back b to (take i p) (omega arith) (from + i) (omega arith) in
      let v : get_or o (from + i) 0 ≡ get_or p i 0 = rw e (g ∙ sym (part_at i k)) in
      rw v (put_copy b to p o i (rw (length_part b from n fits) (omega arith)) (rw (length_part b from n fits) k) e)
