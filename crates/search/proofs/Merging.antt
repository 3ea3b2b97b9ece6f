-- Two ascending tables as one, one number at a time.
use mathlib.Core.Path.{◌≡◌, refl, sym, ap, ◌∙◌}
use mathlib.Core.Logic.{◌⊎◌, inl, inr, ⊎_elim}
use mathlib.Core.List.{List, ◌++◌}
use Prim.Native.Nat.{ℕ, ◌+◌, ◌-◌, ◌≤◌, ◌<◌}
use native.Mathlib.Nat.{eq-or-lt_of_le}
use native.Mathlib.Decide.{dec_lt}
use native.Mathlib.Omega.{arith}
use lib.ListN.{length, get_or, set, take, drop, length-take, length-drop, get_or-append}
use lib.Seq.{get_or-set_same, get_or-set_other, get_or-take, get_or-drop, length-take-le}
use Rattle.std.proofs.lemmas.List.{get_or-append-add}
use Rattle.std.specs.declared.cmp.Ordering.TheVariants.{Less, Equal, Greater}
use Rattle.std.specs.Ordering.{nat_cmp, ord_min}
use Rattle.std.specs.Cmp.{nat_cmp_is}
use Rattle.search.specs.Table.{Rises, Holds, Merged}
use Rattle.search.proofs.Tree.{below}

-- i of the numbers of a and j of b are passed, and make n numbers
pub record Merging (a b out : List ℕ) (i j n : ℕ) : Type 0 where
  pub i_in : i ≤ length a
  pub j_in : j ≤ length b
  pub count : n ≤ i + j
  pub rises : Rises out n
  pub low_a : (k l : ℕ) → k < n → i ≤ l → l < length a → get_or out k 0 < get_or a l 0
  pub low_b : (k l : ℕ) → k < n → j ≤ l → l < length b → get_or out k 0 < get_or b l 0
  pub either : (x : ℕ) → Holds out n x → Holds a i x ⊎ Holds b j x
  pub first : (x : ℕ) → Holds a i x → Holds out n x
  pub second : (x : ℕ) → Holds b j x → Holds out n x

-- both are passed whole
pub merging_end : (a b out : List ℕ) (n : ℕ) → Merging a b out (length a) (length b) n → Merged a b out n
merging_end a b out n m = record { count = m.count; rises = m.rises; either = m.either; first = m.first; second = m.second }

-- the other way round
pub merging_turned : (a b out : List ℕ) (i j n : ℕ) → Merging a b out i j n → Merging b a out j i n
merging_turned a b out i j n m = record {
  i_in = m.j_in;
  j_in = m.i_in;
  count = omega (arith, m.count);
  rises = m.rises;
  low_a = m.low_b;
  low_b = m.low_a;
  either = λ x h. ⊎_elim inr inl (m.either x h);
  first = m.second;
  second = m.first;
}

-- ------------------------------------------------------------------ one number more

-- numbers from place i up to i' are all v
abbrev Passes : List ℕ → ℕ → ℕ → ℕ → Type 0
Passes s i i' v = (i ≤ i') × (i' ≤ length s) × ((k : ℕ) → i ≤ k → k < i' → get_or s k 0 ≡ v) × ((k : ℕ) → i' ≤ k → k < length s → v < get_or s k 0)

module _ (a b out : List ℕ) (i j n : ℕ) (m : Merging a b out i j n) (room : n < length out) where
  -- v is the next number
  push : (v i' j' : ℕ) → Passes a i i' v → Passes b j j' v → n + 1 ≤ i' + j' → Holds a i' v ⊎ Holds b j' v
      → ((k : ℕ) → k < n → get_or out k 0 < v) → Merging a b (set out n v) i' j' (n + 1)
  push v i' j' p q count from low = record {
    i_in = p.1;
    j_in = q.1;
    count = count;
    rises = λ k l o h. ⊎_elim
        (λ (w : l < n). let k_in : k < n = omega arith in rw (old k k_in, old l w) (m.rises k l o w))
        (λ (e : l ≡ n). let k_in : k < n = omega arith in rw (e, old k k_in, new) (low k k_in))
        (below l n h);
    low_a = λ k l h o w. ⊎_elim
        (λ (c : k < n). rw (old k c) (m.low_a k l c (omega (arith, p.0)) w))
        (λ (e : k ≡ n). rw (e, new) (p.3 l o w))
        (below k n h);
    low_b = λ k l h o w. ⊎_elim
        (λ (c : k < n). rw (old k c) (m.low_b k l c (omega (arith, q.0)) w))
        (λ (e : k ≡ n). rw (e, new) (q.3 l o w))
        (below k n h);
    either = λ x h. ⊎_elim
        (λ (c : h.0 < n). ⊎_elim
        (λ (f : Holds a i x). inl (f.0, omega (arith, f.1, p.0), f.2))
        (λ (f : Holds b j x). inr (f.0, omega (arith, f.1, q.0), f.2))
        (m.either x (h.0, c, sym (old h.0 c) ∙ h.2)))
        (λ (e : h.0 ≡ n).
        let is : v ≡ x = sym new ∙ ap (λ (k : ℕ). get_or (set out n v) k 0) (sym e) ∙ h.2 in
        ⊎_elim (λ (f : Holds a i' v). inl (f.0, f.1, f.2 ∙ is)) (λ (f : Holds b j' v). inr (f.0, f.1, f.2 ∙ is)) from)
        (below h.0 n h.1);
    first = λ x h. keeps x (λ o. m.first x (h.0, o, h.2)) (λ o. sym h.2 ∙ p.2 h.0 o h.1) (dec_lt h.0 i);
    second = λ x h. keeps x (λ o. m.second x (h.0, o, h.2)) (λ o. sym h.2 ∙ q.2 h.0 o h.1) (dec_lt h.0 j);
  }
    where
      old : (k : ℕ) → k < n → get_or (set out n v) k 0 ≡ get_or out k 0
      old k l = get_or-set_other out n k v 0 (omega arith)

      new : get_or (set out n v) n 0 ≡ v
      new = get_or-set_same out n v 0 room

      keeps : (x : ℕ) {k i : ℕ} → (k < i → Holds out n x) → (i ≤ k → x ≡ v) → Dec (k < i) → Holds (set out n v) (n + 1) x
      keeps x f g (yes o) = let h = f o in let l : h.0 < n = h.1 in (h.0, omega arith, old h.0 l ∙ h.2)
      keeps x f g (no o) = (n, omega arith, new ∙ sym (g (omega arith)))

module _ (s : List ℕ) (rises : Rises s (length s)) (k : ℕ) (within : k < length s) where
  -- the number at hand is passed
  passes : Passes s k (k + 1) (get_or s k 0)
  passes = (omega arith, omega arith, λ h o w. let y : h ≡ k = omega arith in ap (λ (j : ℕ). get_or s j 0) y, λ h o w. rises k h (omega arith) w)

  -- it comes later
  stays : (v : ℕ) → v < get_or s k 0 → Passes s k k v
  stays v l = (
    omega arith,
    omega arith,
    λ h o w. absurd (omega arith),
    λ h o w. ⊎_elim
        (λ (e : k ≡ h). let y : get_or s k 0 ≡ get_or s h 0 = ap (λ (j : ℕ). get_or s j 0) e in omega arith)
        (λ (c : k < h). omega (arith, rises k h c w))
        (eq-or-lt_of_le o),
  )

-- the next number is that of the first, or both have it
module _ (a b out : List ℕ) (i j n : ℕ) (m : Merging a b out i j n) (rises_a : Rises a (length a)) (rises_b : Rises b (length b)) (room : n < length out) (more_a : i < length a) (more_b : j < length b) where
  next_of_first : (j' : ℕ) → j ≤ j' → Passes b j j' (get_or a i 0) → Merging a b (set out n (get_or a i 0)) (i + 1) j' (n + 1)
  next_of_first j' l p =
      push a b out i j n m room (get_or a i 0) (i + 1) j' (passes a rises_a i more_a) p (omega (arith, m.count)) (inl (i, omega arith, refl)) (λ k o. m.low_a k i o (omega arith) more_a)

  pub take_first : get_or a i 0 < get_or b j 0 → Merging a b (set out n (get_or a i 0)) (i + 1) j (n + 1)
  take_first l = next_of_first j (omega arith) (stays b rises_b j more_b (get_or a i 0) l)

  pub take_both : get_or a i 0 ≡ get_or b j 0 → Merging a b (set out n (get_or a i 0)) (i + 1) (j + 1) (n + 1)
  take_both e = next_of_first (j + 1) (omega arith) (rw e (passes b rises_b j more_b))

-- the lesser of the numbers at hand goes next, and either table passes it where it has it
module _ (a b out : List ℕ) (i j n : ℕ) (m : Merging a b out i j n) (rises_a : Rises a (length a)) (rises_b : Rises b (length b)) (room : n < length out) (more_a : i < length a) (more_b : j < length b)
    (x y v i' j' : ℕ) (x_is : x ≡ get_or a i 0) (y_is : y ≡ get_or b j 0) where
  pub take_next : v ≡ ord_min nat_cmp x y → (x ≤ y → i' ≡ i + 1) → (y < x → i' ≡ i) → (y ≤ x → j' ≡ j + 1) → (x < y → j' ≡ j)
      → Merging a b (set out n v) i' j' (n + 1)
  take_next v_is i_goes i_stays j_goes j_stays = go (dec_lt x y) (dec_lt y x)
    where
      go : Dec (x < y) → Dec (y < x) → Merging a b (set out n v) i' j' (n + 1)
      go (yes l) d =
          let g : nat_cmp y x ≡ Greater = sym (nat_cmp_is y x Greater l) in
          rw (v_is, g, i_goes (omega arith), j_stays l, x_is) (take_first a b out i j n m rises_a rises_b room more_a more_b (rw (← x_is, ← y_is) l))
      go (no c) (yes l) =
          let g : nat_cmp y x ≡ Less = sym (nat_cmp_is y x Less l) in
          rw (v_is, g, i_stays l, j_goes (omega arith), y_is)
          (merging_turned b a (set out n (get_or b j 0)) (j + 1) i (n + 1)
          (take_first b a out j i n (merging_turned a b out i j n m) rises_b rises_a room more_b more_a (rw (← x_is, ← y_is) l)))
      go (no c) (no d) =
          let e : x ≡ y = omega arith in
          let g : nat_cmp y x ≡ Equal = sym (nat_cmp_is y x Equal (sym e)) in
          rw (v_is, g, i_goes (omega arith), j_goes (omega arith), x_is) (take_both a b out i j n m rises_a rises_b room more_a more_b (sym x_is ∙ e ∙ y_is))

-- ------------------------------------------------------------------ the rest of one

-- where one of the two is passed whole, the rest of the first goes behind what there is
module _ (a b out after : List ℕ) (i j n : ℕ) (m : Merging a b out i j n) (rises_a : Rises a (length a)) (over : (i ≡ length a) ⊎ (j ≡ length b))
    (room : n ≤ length out) (end : ℕ) (end_is : end ≡ n + length (take (length a - i) (drop i a))) (w : take end after ≡ take n out ++ take (length a - i) (drop i a)) where
  end_at : end ≡ n + (length a - i)
  end_at = omega (arith, length-take (length a - i) (drop i a), length-drop i a)

  front_long : length (take n out) ≡ n
  front_long = length-take-le n out room

  -- what stood there before is kept, and a place behind is one of the rest
  kept_at : (k : ℕ) → k < n → get_or after k 0 ≡ get_or out k 0
  kept_at k l =
      sym (get_or-take end after k 0 (omega (arith, end_is))) ∙ ap (λ (s : List ℕ). get_or s k 0) w
      ∙ get_or-append (take n out) (take (length a - i) (drop i a)) 0 k (omega (arith, front_long)) ∙ get_or-take n out k 0 l

  behind : (k : ℕ) → n ≤ k → k < end → (i + (k - n) < length a) × (get_or after k 0 ≡ get_or a (i + (k - n)) 0)
  behind k l h =
      let e : length (take n out) + (k - n) ≡ k = omega (arith, front_long) in (
        omega (arith, m.i_in, end_at),
        sym (get_or-take end after k 0 h) ∙ ap (λ (s : List ℕ). get_or s k 0) w
            ∙ rw e at (get_or-append-add (take n out) (take (length a - i) (drop i a)) (k - n) 0)
            ∙ get_or-take (length a - i) (drop i a) (k - n) 0 (omega (arith, end_at)) ∙ get_or-drop i a (k - n) 0,
      )

  pub merging_rest : Merging a b after (length a) j end
  merging_rest = record {
    i_in = omega arith;
    j_in = m.j_in;
    count = omega (arith, m.count, m.i_in, end_at);
    rises = λ k l o h. rising k l o h (dec_lt k n) (dec_lt l n);
    low_a = λ k l h o c. absurd (omega arith);
    low_b = λ k l h o c. low k l h o c (dec_lt k n);
    either = λ x h. back x h (dec_lt h.0 n);
    first = λ x h. there x h (dec_lt h.0 i);
    second = λ x h. kept x (m.second x h);
  }
    where
      rising : (k l : ℕ) → k < l → l < end → Dec (k < n) → Dec (l < n) → get_or after k 0 < get_or after l 0
      rising k l o h (yes c) (yes d) = rw (kept_at k c, kept_at l d) (m.rises k l o d)
      rising k l o h (yes c) (no d) = let f = behind l (omega arith) h in rw (kept_at k c, f.1) (m.low_a k (i + (l - n)) c (omega arith) f.0)
      rising k l o h (no c) d =
          let e = behind k (omega arith) (omega arith) in
          let f = behind l (omega arith) h in
          rw (e.1, f.1) (rises_a (i + (k - n)) (i + (l - n)) (omega arith) f.0)

      low : (k l : ℕ) → k < end → j ≤ l → l < length b → Dec (k < n) → get_or after k 0 < get_or b l 0
      low k l h o c (yes d) = rw (kept_at k d) (m.low_b k l d o c)
      low k l h o c (no d) = absurd (⊎_elim (λ (e : i ≡ length a). omega (arith, end_at)) (λ (e : j ≡ length b). omega arith) over)

      kept : (x : ℕ) → Holds out n x → Holds after end x
      kept x h = let l : h.0 < n = h.1 in (h.0, omega (arith, end_at), kept_at h.0 l ∙ h.2)

      back : (x : ℕ) (h : Holds after end x) → Dec (h.0 < n) → Holds a (length a) x ⊎ Holds b j x
      back x h (yes c) = ⊎_elim (λ (f : Holds a i x). inl (f.0, omega (arith, f.1, m.i_in), f.2)) inr (m.either x (h.0, c, sym (kept_at h.0 c) ∙ h.2))
      back x h (no c) = let f = behind h.0 (omega arith) h.1 in inl (i + (h.0 - n), f.0, sym f.1 ∙ h.2)

      there : (x : ℕ) (h : Holds a (length a) x) → Dec (h.0 < i) → Holds after end x
      there x h (yes c) = kept x (m.first x (h.0, c, h.2))
      there x h (no c) =
          let k_in : n + (h.0 - i) < end = omega (arith, end_at, h.1, m.i_in) in
          let f = behind (n + (h.0 - i)) (omega arith) k_in in
          let e : i + (n + (h.0 - i) - n) ≡ h.0 = omega arith in
          (n + (h.0 - i), k_in, f.1 ∙ rw e h.2)
