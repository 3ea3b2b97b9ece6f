-- Zeros behind a text, a part moved, and a text in the place of another: as the code makes them, and of a block given by its parts.
use mathlib.Core.Path.{◌≡◌, refl, sym, ◌∙◌}
use mathlib.Core.Bool.{true}
use mathlib.Core.List.{◌++◌, append_assoc, append-nil}
use Prim.Native.Nat.{ℕ, ◌+◌, ◌-◌, ◌≤◌, ◌<◌}
use native.Mathlib.Omega.{arith}
use lib.ListN.{length, take, drop, replicate, length-append, length-drop, length-replicate, replicate-append-replicate}
use lib.Seq.{length-take-le, take_at, drop_at, drop-drop, take-append-le, take-take, drop-append_seam}
use Rattle.model.specs.Bytes.{Bytes, put, pad_to}
use Rattle.text.specs.Blocks.{all_zero}
use Rattle.text.proofs.Blocks.{zeros_only, zeros_replicate}
use Rattle.text.proofs.Put.{put_rest}
use Rattle.block.specs.Splice.{slid, spliced}
use Rattle.block.proofs.Moves.{length_part}

-- ------------------------------------------------------------------ zeros behind a text

pub length_pad_to : (n : ℕ) (c : Bytes) → length c ≤ n → length (pad_to n c) ≡ n
length_pad_to n c h = rw (length-append, length-replicate) (omega arith)

pub pad_zeros : (n : ℕ) (c : Bytes) → all_zero (drop (length c) (pad_to n c)) ≡ true
pad_zeros n c = rw (drop-append_seam c (replicate (n - length c) 0)) (zeros_replicate (n - length c))

-- a front part replaced by one as long
pub put_pad_to : (n : ℕ) (x t c : Bytes) → length t ≡ length x → put (pad_to n (x ++ c)) 0 t ≡ pad_to n (t ++ c)
unfolding put
put_pad_to n x t c h =
    let l : length (t ++ c) ≡ length (x ++ c) = rw (length-append t c, length-append x c, h) in
    let r = replicate {A = ℕ} (n - length (x ++ c)) 0 in
    let e : 0 + length t ≡ length t = omega arith in
    rw (l, e, append_assoc x c r, drop_at x (c ++ r) (length t) (sym h)) (sym (append_assoc t c r))

-- ------------------------------------------------------------------ the code

-- what follows a place behind which all is zero
zeros_behind : (b : Bytes) (end p : ℕ) → end ≤ p → p ≤ length b → all_zero (drop end b) ≡ true → drop p b ≡ replicate (length b - p) 0
zeros_behind b end p h l z =
    let j = p - end in
    let q = length b - p in
    let e : end + j ≡ p = omega arith in
    let n : length (drop end b) ≡ j + q = rw length-drop (omega arith) in
    let a : drop end b ≡ replicate j 0 ++ replicate q 0 = zeros_only (drop end b) z ∙ rw (n, replicate-append-replicate {A = ℕ} j q 0) in
    let d : drop j (drop end b) ≡ replicate q 0 = rw a (drop_at (replicate {A = ℕ} j 0) (replicate q 0) j (length-replicate {A = ℕ} j 0)) in
    sym (rw e at (drop-drop j end b)) ∙ d

-- a text with zeros behind it, up to where all is zero
pad_put : (b : Bytes) (to : ℕ) (m : Bytes) (j end : ℕ) → to + (length m + j) ≤ length b → end ≤ to + (length m + j) → all_zero (drop end b) ≡ true
    → put b to (m ++ replicate j 0) ≡ pad_to (length b) (take to b ++ m)
unfolding put
pad_put b to m j end h l z =
    let at = to + (length m + j) in
    let front = length-take-le to b (omega arith) in
    let n : length (m ++ replicate j 0) ≡ length m + j = rw (length-append m (replicate {A = ℕ} j 0), length-replicate {A = ℕ} j 0) in
    let k : j + (length b - at) ≡ length b - length (take to b ++ m) = rw (length-append (take to b) m) (omega arith) in
    rw (n, zeros_behind b end at l h z, ← k, ← replicate-append-replicate {A = ℕ} j (length b - at) 0) (simp append_assoc)

length_slid : (b : Bytes) (end from to : ℕ) → from ≤ end → end ≤ length b → to + (end - from) ≤ length b → length (slid b end from to) ≡ length b
unfolding slid
length_slid b end from to h l k =
    let m = take (end - from) (drop from b) in
    let n : length m ≡ end - from = length_part b from (end - from) (omega arith) in
    let f = length-take-le to b (omega arith) in
    length_pad_to (length b) (take to b ++ m) (rw (length-append (take to b) m) (omega arith))

module _ (b : Bytes) (end from to : ℕ) (h : from ≤ end) (l : end ≤ length b) (k : to + (end - from) ≤ length b) (z : all_zero (drop end b) ≡ true) where
  -- the part moved towards the end, or nowhere
  pub slid_up : (o : Bytes) → from ≤ to → o ≡ put b to (take (end - from) (drop from b)) → o ≡ slid b end from to
  unfolding slid
  slid_up o le e =
      let m = take (end - from) (drop from b) in
      let n : length m ≡ end - from = length_part b from (end - from) (omega arith) in
      e ∙ rw append-nil at (pad_put b to m 0 end (omega arith) (omega arith) z)

  -- the part moved towards the start, and what it left cleared
  pub slid_down : (o₁ o : Bytes) → to < from → o₁ ≡ put b to (take (end - from) (drop from b)) → o ≡ put o₁ (to + (end - from)) (replicate (from - to) 0)
      → o ≡ slid b end from to
  unfolding slid
  slid_down o₁ o lt e₁ e =
      let m = take (end - from) (drop from b) in
      let n : length m ≡ end - from = length_part b from (end - from) (omega arith) in
      let r : length (replicate {A = ℕ} (from - to) 0) ≡ from - to = length-replicate (from - to) 0 in
      let q : to + (end - from) ≡ to + length m = omega arith in
      e ∙ put_rest b o₁ to (to + (end - from)) m (replicate (from - to) 0) (omega arith) e₁ q ∙ pad_put b to m (from - to) end (omega arith) (omega arith) z

-- a text written into the gap
pub splice_put : (b : Bytes) (end at old : ℕ) (t : Bytes) → at + old ≤ end → end ≤ length b → end + length t ≤ length b + old
    → put (slid b end (at + old) (at + length t)) at t ≡ spliced b end at old t
unfolding put slid spliced
splice_put b end at old t h l k =
    let to = at + length t in
    let m = take (end - (at + old)) (drop (at + old) b) in
    let f = take to b in
    let r = replicate {A = ℕ} (length b - length (f ++ m)) 0 in
    let nf : length f ≡ to = length-take-le to b (omega arith) in
    let na : length (take at b) ≡ at = length-take-le at b (omega arith) in
    let n : length (take at b ++ (t ++ m)) ≡ length (f ++ m) = rw (length-append (take at b) (t ++ m), length-append t m, length-append f m) (omega arith) in
    let front : take at (f ++ (m ++ r)) ≡ take at b = take-append-le at f (m ++ r) (omega arith) ∙ take-take at to b (omega arith) in
    rw (n, append_assoc f m r, front, drop_at f (m ++ r) to nf) (simp append_assoc)

-- the same, written in two parts
pub splice_two : (b : Bytes) (end at old : ℕ) (t u b₁ b₂ b₃ : Bytes) (p : ℕ) → at + old ≤ end → end ≤ length b
    → end + length t + length u ≤ length b + old → b₁ ≡ slid b end (at + old) (at + length t + length u) → b₂ ≡ put b₁ at t → p ≡ at + length t
    → b₃ ≡ put b₂ p u → b₃ ≡ spliced b end at old (t ++ u)
splice_two b end at old t u b₁ b₂ b₃ p h l k e₁ e₂ q e₃ =
    let to : at + length t + length u ≡ at + length (t ++ u) = rw (length-append t u) (omega arith) in
    let n : length b₁ ≡ length b = rw e₁ (length_slid b end (at + old) (at + length t + length u) h l (omega arith)) in
    e₃ ∙ put_rest b₁ b₂ at p t u (omega arith) e₂ q ∙ rw (e₁, to) (splice_put b end at old (t ++ u) h l (rw (length-append t u) (omega arith)))

-- ------------------------------------------------------------------ a block given by its parts

pub splice_parts : (n : ℕ) (x y z t : Bytes) → length x + (length y + length z) ≤ n
    → spliced (pad_to n (x ++ (y ++ z))) (length x + (length y + length z)) (length x) (length y) t ≡ pad_to n (x ++ (t ++ z))
unfolding spliced
splice_parts n x y z t h =
    let c = x ++ (y ++ z) in
    let r = replicate {A = ℕ} (n - length c) 0 in
    let nc : length c ≡ length x + (length y + length z) = rw (length-append x (y ++ z), length-append y z) in
    let whole : length (pad_to n c) ≡ n = length_pad_to n c (omega arith) in
    let a : pad_to n c ≡ (x ++ y) ++ (z ++ r) = simp append_assoc in
    let front : take (length x) (pad_to n c) ≡ x = rw (append_assoc x (y ++ z) r) (take_at x ((y ++ z) ++ r) (length x) refl) in
    let back : drop (length x + length y) (pad_to n c) ≡ z ++ r = rw a (drop_at (x ++ y) (z ++ r) (length x + length y) (length-append x y)) in
    let k : length x + (length y + length z) - (length x + length y) ≡ length z = omega arith in
    rw (whole, front, back, k, take_at z r (length z) refl)

-- a part moved, towards either side
pub ruleset slides = (slid_up, slid_down)
