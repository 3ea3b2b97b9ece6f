-- What the search has found is best: once all steps of the places before h are done, the path to place h is the best one, and
-- where there is no place h every node that has a path is found.
use mathlib.Core.Path.{◌≡◌, refl, sym, ap, ◌∙◌}
use mathlib.Core.Logic.{◌⊎◌, inl, inr, ⊎_elim}
use mathlib.Core.List.{List, [], ◌∷◌, ◌++◌, append-nil}
use Prim.Native.Nat.{ℕ, zero, suc, ◌+◌, ◌*◌, ◌%◌, ◌≤◌, ◌<◌}
use native.Mathlib.Nat.{eq-or-lt_of_le}
use native.Mathlib.Decide.{dec_lt, ℕ_discrete}
use native.Mathlib.Omega.{arith}
use lib.ListN.{get_or, length-append}
use lib.Seq.{append_snoc}
use Rattle.search.specs.Steps.{max_nodes, max_moves, Moves, IsPath, Earlier, NotLater, Best}
use Rattle.search.specs.Queue.{node_at, prev_at, move_at, Tree}
use Rattle.search.specs.Promise.{path_to, Among}
use Rattle.search.proofs.PathOrder.{earlier_trans, not_later_trans, not_later_snoc, not_later_append, earlier_snoc, earlier_last, path_snoc, path_end}
use Rattle.search.proofs.Walk.{path_first, path_step}

-- the queue's entries ascend as the paths do
module _ (q : List ℕ) (n : ℕ) (falls : (j : ℕ) → 0 < j → j < n → prev_at q j < j)
    (rises : (i j : ℕ) → 0 < i → i < j → j < n → get_or q i 0 < get_or q j 0) where
  no_first : (ms : List ℕ) (m : ℕ) → Earlier (path_to q 0) (ms ++ (m ∷ []))
  no_first ms m = inl (rw (path_first q) (simp length-append (omega arith)))

  -- by predecessor, then by move
  by_entry : (p k : ℕ) (j : ℕ) → 0 < j → j < n → prev_at q j ≤ p → get_or q j 0 < p * max_moves + k
      → (prev_at q j < p → Earlier (path_to q (prev_at q j)) (path_to q p)) → Earlier (path_to q j) (path_to q p ++ (k ∷ []))
  by_entry p k j z l le lt before = rw (path_step q n falls j z l) (⊎_elim
      (λ (e : prev_at q j ≡ p). rw e (earlier_last (path_to q p) (move_at q j) k (omega arith)))
      (λ (o : prev_at q j < p). earlier_snoc (path_to q (prev_at q j)) (path_to q p) (move_at q j) k (before o))
      (eq-or-lt_of_le le))

  order_to : (f i j : ℕ) → j ≤ f → i < j → j < n → Earlier (path_to q i) (path_to q j)
  order_to zero i j b l m = absurd (omega arith)
  order_to (suc f) i j b l m = rw (path_step q n falls j (omega arith) m) (go (ℕ_discrete i 0) (order_to f (prev_at q i) (prev_at q j)))
    where
      go : Dec (i ≡ 0) → (prev_at q j ≤ f → prev_at q i < prev_at q j → prev_at q j < n → Earlier (path_to q (prev_at q i)) (path_to q (prev_at q j)))
          → Earlier (path_to q i) (path_to q (prev_at q j) ++ (move_at q j ∷ []))
      go (yes e) before = rw e (no_first (path_to q (prev_at q j)) (move_at q j))
      go (no d) before =
          let r : get_or q i 0 < get_or q j 0 = rises i j (omega arith) l m in
          let p : prev_at q j < j = falls j (omega arith) m in
          by_entry (prev_at q j) (move_at q j) i (omega arith) (omega arith) (omega arith) (omega arith) (λ o. before (omega arith) o (omega arith))

  pub order : (i j : ℕ) → i < j → j < n → Earlier (path_to q i) (path_to q j)
  order i j l m = order_to j i j (omega arith) l m

module _ (R : Moves) (a : ℕ) (q : List ℕ) (n h : ℕ) (t : Tree R q n (h * max_moves)) (root : get_or q 0 0 ≡ a) where
  path_at : (f j : ℕ) → j < f → j < n → IsPath R a (path_to q j) (node_at q j)
  unfolding IsPath
  path_at zero j b l = absurd (omega arith)
  path_at (suc f) j b l = go (ℕ_discrete j 0) (path_at f (prev_at q j))
    where
      go : Dec (j ≡ 0) → (prev_at q j < f → prev_at q j < n → IsPath R a (path_to q (prev_at q j)) (node_at q (prev_at q j))) → IsPath R a (path_to q j) (node_at q j)
      go (yes z) before = rw (z, path_first q) (let e : get_or q 0 0 % max_nodes ≡ a = omega (arith, t.root) in sym e)
      go (no z) before =
          let p : prev_at q j < j = t.falls j (omega arith) l in
          let e : move_at q j % max_nodes ≡ node_at q j = omega arith in
          rw (path_step q n t.falls j (omega arith) l)
          (rw e at (path_snoc R a (path_to q (prev_at q j)) (node_at q (prev_at q j)) (move_at q j) (before (omega arith) (omega arith)) (t.steps j (omega arith) l)))

  path : (j : ℕ) → j < n → IsPath R a (path_to q j) (node_at q j)
  path j l = path_at (suc j) j (omega arith) l

  in_order : (i j : ℕ) → i ≤ j → j < n → NotLater (path_to q i) (path_to q j)
  in_order i j l m = ⊎_elim (λ (e : i ≡ j). inl (ap (path_to q) (sym e))) (λ (o : i < j). inr (order q n t.falls t.rises i j o m)) (eq-or-lt_of_le l)

  -- where a step from a place before h leads
  pub record Met (p m : ℕ) : Type 0 where
    pub j : ℕ
    pub lt : j < n
    pub is : node_at q j ≡ m % max_nodes
    pub no_later : NotLater (path_to q j) (path_to q p ++ (m ∷ []))

  met : (p m : ℕ) → p < n → p < h → m < max_moves → R (node_at q p) m → Met p m
  met p m p_in o s r =
      let f = t.closed p m p_in (omega arith) r in
      record { j = f.0; lt = f.1; is = f.2; no_later = at f.0 f.1 f.3 }
    where
      at : (j : ℕ) → j < n → (j ≡ 0) ⊎ (get_or q j 0 ≤ p * max_moves + m) → NotLater (path_to q j) (path_to q p ++ (m ∷ []))
      at j l (inl e) = inr (rw e (no_first q n t.falls t.rises (path_to q p) m))
      at j l (inr w) = go (ℕ_discrete j 0) (eq-or-lt_of_le w)
        where
          go : Dec (j ≡ 0) → (get_or q j 0 ≡ p * max_moves + m) ⊎ (get_or q j 0 < p * max_moves + m) → NotLater (path_to q j) (path_to q p ++ (m ∷ []))
          go (yes e) w = inr (rw e (no_first q n t.falls t.rises (path_to q p) m))
          go (no d) (inl e) =
              let c : prev_at q j ≡ p = omega arith in
              let k : move_at q j ≡ m = omega arith in
              inl (sym (path_step q n t.falls j (omega arith) l ∙ rw (c, k)))
          go (no d) (inr o) =
              inr (by_entry q n t.falls t.rises p m j (omega arith) l (omega arith) o (λ b. order q n t.falls t.rises (prev_at q j) p b p_in))

  module _ (lows : (v m : ℕ) → R v m → m < max_moves) (g : ℕ) (g_low : g ≤ h) where
    -- a path to v: found before place g by one that is no later, or the path to place g is no later
    abbrev Reach : ℕ → List ℕ → Type 0
    Reach v ms = ((j : ℕ) × (j < n) × (j < g) × (node_at q j ≡ v) × NotLater (path_to q j) ms) ⊎ ((g < n) × NotLater (path_to q g) ms)

    reach : (rest ms : List ℕ) (j v : ℕ) → j < n → j < g → NotLater (path_to q j) ms → IsPath R (node_at q j) rest v → Reach v (ms ++ rest)
    unfolding IsPath
    reach [] ms j v l o no_later p = inl (j, l, o, p, rw append-nil no_later)
    reach (m ∷ rest) ms j v l o no_later p = go (λ i. reach rest (ms ++ (m ∷ [])) i v) (dec_lt f.j g)
      where
        f : Met j m
        f = met j m l (omega arith) (lows (node_at q j) m p.0) p.0

        step_later : NotLater (path_to q f.j) (ms ++ (m ∷ []))
        step_later = not_later_trans (path_to q f.j) (path_to q j ++ (m ∷ [])) (ms ++ (m ∷ [])) f.no_later (not_later_snoc (path_to q j) ms m no_later)

        go : ((i : ℕ) → i < n → i < g → NotLater (path_to q i) (ms ++ (m ∷ [])) → IsPath R (node_at q i) rest v → Reach v (ms ++ (m ∷ []) ++ rest))
            → Dec (f.j < g) → Reach v (ms ++ (m ∷ rest))
        go further (yes b) = rw append_snoc at (further f.j f.lt b step_later (rw f.is p.1))
        go further (no b) =
            let z : f.j < n = f.lt in
            inr (omega arith, rw append_snoc at (not_later_append (path_to q g) (ms ++ (m ∷ [])) rest (not_later_trans (path_to q g) (path_to q f.j) (ms ++ (m ∷ [])) (in_order g f.j (omega arith) z) step_later)))

    pub reached : (ms : List ℕ) (v : ℕ) → IsPath R a ms v → Reach v ms
    reached ms v p = go (dec_lt 0 g)
      where
        start : node_at q 0 ≡ a
        start = omega (arith, t.root, root)

        go : Dec (0 < g) → Reach v ms
        go (yes b) = reach ms [] 0 v t.some b (inl (sym (path_first q))) (rw start p)
        go (no b) = let z : g ≡ 0 = omega arith in inr (rw z t.some, rw (z, path_first q) (not_later_append [] [] ms (inl refl)))

    pub best_at : g < n → ((j : ℕ) → j < n → node_at q j ≡ node_at q g → j ≡ g) → Best R a (path_to q g) (node_at q g)
    best_at l once = record { path = path g l; first = λ ks p. go ks (reached ks (node_at q g) p) }
      where
        go : (ks : List ℕ) → Reach (node_at q g) ks → NotLater (path_to q g) ks
        go ks (inl f) = absurd (omega (arith, once f.0 f.1 f.3, f.2))
        go ks (inr f) = f.1

    -- nothing is missing up to place g
    pub none_missing : g < n → (ms : List ℕ) (v : ℕ) → IsPath R a ms v → Among q (g + 1) v ⊎ ((j : ℕ) → j < g + 1 → Earlier (path_to q j) ms)
    none_missing l ms v p = go (reached ms v p)
      where
        go : Reach v ms → Among q (g + 1) v ⊎ ((j : ℕ) → j < g + 1 → Earlier (path_to q j) ms)
        go (inl f) = let o : f.0 < g = f.2 in inl (f.0, omega arith, f.3)
        go (inr f) = ⊎_elim
            (λ (e : ms ≡ path_to q g). inl (g, omega arith, path_end R (path_to q g) a (node_at q g) v (path g l) (rw e at p)))
            (λ (o : Earlier (path_to q g) ms). inr (λ j b. ⊎_elim
            (λ (d : path_to q g ≡ path_to q j). rw d at o)
            (λ (d : Earlier (path_to q j) (path_to q g)). earlier_trans (path_to q j) (path_to q g) ms d o)
            (in_order j g (omega arith) l)))
            f.1

    pub all_found : n ≤ g → (ms : List ℕ) (v : ℕ) → IsPath R a ms v → Among q n v
    all_found l ms v p = go (reached ms v p)
      where
        go : Reach v ms → Among q n v
        go (inl f) = (f.0, f.1, f.3)
        go (inr f) = absurd (omega (arith, f.0))
