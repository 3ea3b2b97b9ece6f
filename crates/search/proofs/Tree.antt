-- What is found, one step at a time.
use mathlib.Core.Path.{◌≡◌, refl, sym, ap, ◌∙◌}
use mathlib.Core.Logic.{◌⊎◌, inl, inr, ⊎_elim}
use mathlib.Core.List.{List, [], ◌∷◌}
use Prim.Native.Nat.{ℕ, zero, suc, ◌+◌, ◌*◌, ◌/◌, ◌%◌, ◌≤◌, ◌<◌}
use native.Mathlib.Nat.{eq-or-lt_of_le, not-suc-le-zero, le_of_suc-le-suc}
use native.Mathlib.Decide.{ℕ_discrete, dec_lt}
use native.Mathlib.Omega.{arith}
use lib.ListN.{length, get_or, set, length-set, replicate}
use Rattle.std.specs.Prelude.{Option, Some, None}
use lib.Seq.{get_or-set_same, get_or-set_other}
use Rattle.std.proofs.lemmas.Option.{none-some, same_Some}
use Rattle.search.specs.Steps.{max_nodes, max_moves, Moves}
use Rattle.search.specs.Queue.{node_at, prev_at, move_at, missing, Places, FoundBy, Tree}

pub below : (j n : ℕ) → j < n + 1 → (j < n) ⊎ (j ≡ n)
below j n l = ⊎_elim inr inl (eq-or-lt_of_le (omega arith))

-- ------------------------------------------------------------------ nodes that are not found

pub missing_set : (l : List (Option ℕ)) (i k : ℕ) → i < length l → get_or l i None ≡ None → missing (set l i (Some k)) + 1 ≡ missing l
unfolding missing
missing_set [] i k l e = absurd (not-suc-le-zero l)
missing_set (None ∷ xs) zero k l e = omega arith
missing_set (Some j ∷ xs) zero k l e = absurd (none-some j (sym e))
missing_set (None ∷ xs) (suc i) k l e = let h = missing_set xs i k (le_of_suc-le-suc l) e in omega arith
missing_set (Some j ∷ xs) (suc i) k l e = missing_set xs i k (le_of_suc-le-suc l) e

pub missing_all : (n : ℕ) → missing (replicate n None) ≡ n
unfolding missing
missing_all zero = refl
missing_all (suc n) = ap suc (missing_all n)

-- ------------------------------------------------------------------ where they stand

-- one node more, at the end
pub places_push : (q : List ℕ) (places : List (Option ℕ)) (n y : ℕ) → Places q places n → n < length q → y % max_nodes < length places
    → get_or places (y % max_nodes) None ≡ None → Places (set q n y) (set places (y % max_nodes) (Some n)) (n + 1)
places_push q places n y s room small z = record {
  seat = λ j l. ⊎_elim
      (λ (o : j < n). rw (old j o, other (node_at q j) (fresh j o)) (s.seat j o))
      (λ (e : j ≡ n). rw (e, new, placed))
      (below j n l);
  inside = λ j l. rw (length-set places (y % max_nodes) (Some n)) (⊎_elim (λ (o : j < n). rw (old j o) (s.inside j o)) (λ (e : j ≡ n). rw (e, new) small) (below j n l));
  back = λ v j l e. at_back v j (rw length-set at l) e (ℕ_discrete v (y % max_nodes));
}
  where
    old : (j : ℕ) → j < n → get_or (set q n y) j 0 ≡ get_or q j 0
    old j l = get_or-set_other q n j y 0 (omega arith)

    new : get_or (set q n y) n 0 ≡ y
    new = get_or-set_same q n y 0 room

    placed : get_or (set places (y % max_nodes) (Some n)) (y % max_nodes) None ≡ Some n
    placed = get_or-set_same places (y % max_nodes) (Some n) None small

    other : (v : ℕ) → (v ≡ y % max_nodes → ⊥) → get_or (set places (y % max_nodes) (Some n)) v None ≡ get_or places v None
    other v d = get_or-set_other places (y % max_nodes) v (Some n) None d

    fresh : (j : ℕ) → j < n → node_at q j ≡ y % max_nodes → ⊥
    fresh j l e = none-some j (sym z ∙ ap (λ (v : ℕ). get_or places v None) (sym e) ∙ s.seat j l)

    at_back : (v j : ℕ) → v < length places → get_or (set places (y % max_nodes) (Some n)) v None ≡ Some j → Dec (v ≡ y % max_nodes)
        → (j < n + 1) × (node_at (set q n y) j ≡ v)
    at_back v j l e (yes d) =
        let same : n ≡ j = same_Some n j (sym placed ∙ rw d at e) in
        (omega arith, rw (← same, new) (sym d))
    at_back v j l e (no d) =
        let f = s.back v j l (rw (other v d) at e) in
        let i : j < n = f.0 in
        (omega arith, rw (old j i) f.1)

pub places_start : (q : List ℕ) (places : List (Option ℕ)) (a : ℕ) → 0 < length q → a < length places → length places ≤ max_nodes
    → ((v : ℕ) → v < length places → get_or places v None ≡ None) → Places (set q 0 a) (set places a (Some 0)) 1
places_start q places a room small few clear =
    let e : a % max_nodes ≡ a = omega arith in
    rw e at (places_push q places 0 a none room (rw e small) (rw e (clear a small)))
  where
    none : Places q places 0
    none = record {
      seat = λ j l. absurd (omega arith);
      inside = λ j l. absurd (omega arith);
      back = λ v j l e. absurd (none-some j (sym (clear v l) ∙ e));
    }

-- ------------------------------------------------------------------ the steps that are done

module _ (R : Moves) where
  pub tree_start : (q : List ℕ) → get_or q 0 0 < max_nodes → Tree R q 1 0
  tree_start q l = record {
    some = omega arith;
    root = l;
    falls = λ j z l. absurd (omega arith);
    steps = λ j z l. absurd (omega arith);
    rises = λ i j z l m. absurd (omega arith);
    done = λ j z l. absurd (omega arith);
    closed = λ p m l d. absurd (omega arith);
  }

  module _ (q : List ℕ) (n x : ℕ) (t : Tree R q n x) where
    -- no step stands between
    pub tree_move : (y : ℕ) → x ≤ y → ((p m : ℕ) → p < n → x ≤ p * max_moves + m → p * max_moves + m < y → R (node_at q p) m → ⊥) → Tree R q n y
    tree_move y l none = record {
      some = t.some;
      root = t.root;
      falls = t.falls;
      steps = t.steps;
      rises = t.rises;
      done = λ j z m. omega (arith, t.done j z m);
      closed = λ p m o d r. go p m o d r (dec_lt (p * max_moves + m) x);
    }
      where
        go : (p m : ℕ) → p < n → p * max_moves + m < y → R (node_at q p) m → Dec (p * max_moves + m < x)
            → FoundBy q n p m
        go p m o d r (yes w) = t.closed p m o w r
        go p m o d r (no w) = absurd (none p m o (omega arith) d r)

    module _ (h k : ℕ) (here : h < n) (small : k < max_moves) (low : h * max_moves ≤ x) (high : x ≤ h * max_moves + k + 1)
        (only : (m : ℕ) → x ≤ h * max_moves + m → m ≤ k → R (node_at q h) m → m ≡ k) (lows : (v m : ℕ) → R v m → m < max_moves) where
      -- the step at hand, from place h by move k, is the only one that is done now
      which : (p m : ℕ) → p * max_moves + m < h * max_moves + k + 1 → (p * max_moves + m < x → ⊥) → R (node_at q p) m → (p ≡ h) × (m ≡ k)
      which p m d w r =
          let s = lows (node_at q p) m r in
          let e : p ≡ h = omega arith in
          (e, only m (omega arith) (omega arith) (rw e at r))

      -- it leads to a node that is found
      pub tree_skip : (j : ℕ) → j < n → node_at q j ≡ k % max_nodes → Tree R q n (h * max_moves + k + 1)
      tree_skip j l is = record {
        some = t.some;
        root = t.root;
        falls = t.falls;
        steps = t.steps;
        rises = t.rises;
        done = λ i z m. omega (arith, t.done i z m);
        closed = λ p m o d r. go p m o d r (dec_lt (p * max_moves + m) x);
      }
        where
          go : (p m : ℕ) → p < n → p * max_moves + m < h * max_moves + k + 1 → R (node_at q p) m → Dec (p * max_moves + m < x)
              → FoundBy q n p m
          go p m o d r (yes w) = t.closed p m o w r
          go p m o d r (no w) =
              let e = which p m d w r in
              let at : (j ≡ 0) ⊎ (get_or q j 0 ≤ p * max_moves + m) = first (ℕ_discrete j 0) e.0 e.1 in
              (j, l, is ∙ ap (λ (i : ℕ). i % max_nodes) (sym e.1), at)
            where
              first : Dec (j ≡ 0) → p ≡ h → m ≡ k → (j ≡ 0) ⊎ (get_or q j 0 ≤ p * max_moves + m)
              first (yes z) e f = inl z
              first (no z) e f = inr (omega (arith, t.done j (omega arith) l))

      -- it leads to a new one, which stands at the end
      pub tree_push : R (node_at q h) k → ((j : ℕ) → j < n → node_at q j ≡ k % max_nodes → ⊥) → n < length q
          → Tree R (set q n (h * max_moves + k)) (n + 1) (h * max_moves + k + 1)
      tree_push r fresh room = record {
        some = omega arith;
        root = rw (old 0 t.some) t.root;
        falls = λ j z l. ⊎_elim (λ (o : j < n). rw (old j o) (t.falls j z o)) (λ (e : j ≡ n). rw (e, new) (omega arith)) (below j n l);
        steps = λ j z l. ⊎_elim (λ (o : j < n). old_step j z o) (λ (e : j ≡ n). rw (e, new) new_step) (below j n l);
        rises = λ i j z l m. ⊎_elim
            (λ (o : j < n). let i_in : i < n = omega arith in rw (old i i_in, old j o) (t.rises i j z l o))
            (λ (e : j ≡ n). let i_in : i < n = omega arith in rw (e, old i i_in, new) (new_rises i z i_in))
            (below j n m);
        done = λ j z l. ⊎_elim (λ (o : j < n). rw (old j o) (omega (arith, t.done j z o))) (λ (e : j ≡ n). rw (e, new) (omega arith)) (below j n l);
        closed = λ p m o d s.
            let p_in : p < n = omega arith in
            go p m p_in d (rw (old p p_in) at s) (dec_lt (p * max_moves + m) x);
      }
        where
          old : (j : ℕ) → j < n → get_or (set q n (h * max_moves + k)) j 0 ≡ get_or q j 0
          old j l = get_or-set_other q n j (h * max_moves + k) 0 (omega arith)

          new : get_or (set q n (h * max_moves + k)) n 0 ≡ h * max_moves + k
          new = get_or-set_same q n (h * max_moves + k) 0 room

          prev_in : (j : ℕ) → 0 < j → j < n → prev_at q j < n
          prev_in j z l = omega (arith, t.falls j z l)

          old_step : (j : ℕ) → 0 < j → j < n → R (node_at (set q n (h * max_moves + k)) (prev_at (set q n (h * max_moves + k)) j)) (move_at (set q n (h * max_moves + k)) j)
          old_step j z l = rw (old j l, old (prev_at q j) (prev_in j z l)) (t.steps j z l)

          new_step : R (node_at (set q n (h * max_moves + k)) ((h * max_moves + k) / max_moves)) ((h * max_moves + k) % max_moves)
          new_step =
              let e : (h * max_moves + k) / max_moves ≡ h = omega arith in
              let f : (h * max_moves + k) % max_moves ≡ k = omega arith in
              rw (e, f, old h here) r

          new_rises : (i : ℕ) → 0 < i → i < n → get_or q i 0 < h * max_moves + k
          new_rises i z l = go (ℕ_discrete (get_or q i 0) (h * max_moves + k))
            where
              go : Dec (get_or q i 0 ≡ h * max_moves + k) → get_or q i 0 < h * max_moves + k
              go (yes e) = absurd (fresh i l (omega arith))
              go (no d) = omega (arith, t.done i z l)

          go : (p m : ℕ) → p < n → p * max_moves + m < h * max_moves + k + 1 → R (node_at q p) m → Dec (p * max_moves + m < x)
              → FoundBy (set q n (h * max_moves + k)) (n + 1) p m
          go p m o d s (yes w) =
              let f = t.closed p m o w s in
              let l : f.0 < n = f.1 in
              (f.0, omega arith, rw (old f.0 l) f.2, rw (old f.0 l) f.3)
          go p m o d s (no w) =
              let e = which p m d w s in
              (n, omega arith, rw (new, e.1) (omega arith), inr (rw (new, e.0, e.1) (omega arith)))
