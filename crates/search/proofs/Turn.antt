-- One turn of the search: the steps from the node v at place h, one at a time, and the turns one after another.
use mathlib.Core.Path.{◌≡◌, refl, sym, ap, ◌∙◌}
use mathlib.Core.Logic.{⊎_elim}
use mathlib.Core.Bool.{Bool, true, false, not, false≢true}
use mathlib.Core.List.{List}
use Rattle.std.specs.Prelude.{Option, Some, None}
use Rattle.std.specs.Option.{is_some}
use Rattle.std.proofs.lemmas.Option.{none-some}
use Rattle.std.proofs.lemmas.List.{get_or_read}
use Prim.Native.Nat.{ℕ, ◌+◌, ◌-◌, ◌*◌, ◌%◌, ◌≤◌, ◌<◌}
use native.Mathlib.Decide.{dec_lt}
use native.Mathlib.Nat.{eq-or-lt_of_le}
use native.Mathlib.Omega.{arith}
use lib.ListN.{length, get_or, set, take, drop, length-set, length-take, length-drop}
use lib.Seq.{get_or-set_other, get_or-take, get_or-drop}
use Rattle.search.specs.Steps.{max_nodes, max_moves, leads, Made}
use Rattle.search.specs.Queue.{node_at, missing, Places, Tree, Room, Searching, Kept}
use Rattle.search.proofs.Tree.{below, missing_set, places_push, tree_move, tree_skip, tree_push}

-- the steps before place e of the table are done, as are all moves below x; the others are no less than the last one
pub record Turning (T starts : List ℕ) (h v : ℕ) (q₀ : List ℕ) (n₀ size : ℕ) (q : List ℕ) (places : List (Option ℕ)) (n e : ℕ) : Type 0 where
  pub x : ℕ
  pub within : x ≤ max_moves
  pub begun : get_or starts v 0 ≤ e
  pub low : (k : ℕ) → k < e → get_or T k 0 < v * max_moves + x
  pub high : (k : ℕ) → e ≤ k → k < length T → v * max_moves + x ≤ get_or T k 0 + 1
  pub here : h < n
  pub node : node_at q h ≡ v
  pub room : Room q places
  pub found : n + missing places ≡ length places
  pub seats : Places q places n
  pub tree : Tree (leads T) q n (h * max_moves + x)
  pub size_is : length places ≡ size
  pub kept : Kept q₀ n₀ q n

module _ (T starts : List ℕ) (h size : ℕ) (made : Made T starts size) (q₀ : List ℕ) (n₀ : ℕ) where
  module _ (v : ℕ) (v_in : v < size) (q : List ℕ) (places : List (Option ℕ)) (n e : ℕ) (t : Turning T starts h v q₀ n₀ size q places n e) where
    pub turning_end : get_or starts (v + 1) 0 ≤ e → Searching (leads T) q places n (h + 1)
    turning_end over = record {
      room = t.room;
      found = t.found;
      seats = t.seats;
      tree = tree_move (leads T) q n (h * max_moves + t.x) t.tree ((h + 1) * max_moves) (omega (arith, t.within)) none;
    }
      where
        none : (p m : ℕ) → p < n → h * max_moves + t.x ≤ p * max_moves + m → p * max_moves + m < (h + 1) * max_moves → leads T (node_at q p) m → ⊥
        none p m l a b r = go (dec_lt k e)
          where
            k : ℕ
            k = r.1.0

            is_h : p ≡ h
            is_h = omega (arith, r.0)

            is_v : node_at q p ≡ v
            is_v = ap (node_at q) is_h ∙ t.node

            go : Dec (k < e) → ⊥
            go (yes o) = omega (arith, t.low k o, r.1.2, is_v, is_h)
            go (no o) = omega (arith, made.above (v + 1) k (omega arith) (omega arith) r.1.1, r.1.2, is_v, r.0)

    module _ (more : e < get_or starts (v + 1) 0) where
      pub e_in : e < length T
      e_in = omega (arith, made.inside (v + 1) (omega arith))

      pub next_in : get_or T e 0 % max_nodes < length places
      next_in = omega (arith, made.nodes e e_in, t.size_is)

      step_low : v * max_moves ≤ get_or T e 0
      step_low = made.above v e (omega arith) t.begun e_in

      step_high : get_or T e 0 < (v + 1) * max_moves
      step_high = made.below (v + 1) e (omega arith) more

      is_step : get_or T e 0 ≡ v * max_moves + get_or T e 0 % max_moves
      is_step = omega (arith, step_low, step_high)

      later : (k : ℕ) → e ≤ k → k < length T → get_or T e 0 ≤ get_or T k 0
      later k l m = ⊎_elim
          (λ (d : e ≡ k). let z : get_or T e 0 ≡ get_or T k 0 = ap (λ (i : ℕ). get_or T i 0) d in omega arith)
          (λ (o : e < k). made.rises e k o m)
          (eq-or-lt_of_le l)

      only : (m : ℕ) → h * max_moves + t.x ≤ h * max_moves + m → m ≤ get_or T e 0 % max_moves → leads T (node_at q h) m → m ≡ get_or T e 0 % max_moves
      only m a b r = go (dec_lt r.1.0 e)
        where
          go : Dec (r.1.0 < e) → m ≡ get_or T e 0 % max_moves
          go (yes o) = absurd (omega (arith, t.low r.1.0 o, r.1.2, t.node))
          go (no o) = omega (arith, later r.1.0 (omega arith) r.1.1, r.1.2, t.node, is_step)

      this : leads T (node_at q h) (get_or T e 0 % max_moves)
      this = (omega arith, (e, e_in, rw t.node is_step))

      high' : h * max_moves + t.x ≤ h * max_moves + get_or T e 0 % max_moves + 1
      high' = omega (arith, t.high e (omega arith) e_in, is_step)

      low_next : (k : ℕ) → k < e + 1 → get_or T k 0 < v * max_moves + (get_or T e 0 % max_moves + 1)
      low_next k l = ⊎_elim
          (λ (o : k < e). omega (arith, made.rises k e o e_in, is_step))
          (λ (d : k ≡ e). let z : get_or T k 0 ≡ get_or T e 0 = ap (λ (i : ℕ). get_or T i 0) d in omega (arith, is_step))
          (below k e l)

      regroup : h * max_moves + get_or T e 0 % max_moves + 1 ≡ h * max_moves + (get_or T e 0 % max_moves + 1)
      regroup = omega arith

      pub turning_old : (j : ℕ) → get_or places (get_or T e 0 % max_nodes) None ≡ Some j → Turning T starts h v q₀ n₀ size q places n (e + 1)
      turning_old j z =
          let f = t.seats.back (get_or T e 0 % max_nodes) j next_in z in
          record {
            x = get_or T e 0 % max_moves + 1;
            within = omega arith;
            begun = omega (arith, t.begun);
            low = low_next;
            high = λ k l m. omega (arith, later k (omega arith) m, is_step);
            here = t.here;
            node = t.node;
            room = t.room;
            found = t.found;
            seats = t.seats;
            tree = rw regroup at (tree_skip (leads T) q n (h * max_moves + t.x) t.tree h (get_or T e 0 % max_moves) t.here (omega arith) (omega arith) high' only
                (λ v m r. r.0) j f.0 (omega (arith, f.1)));
            size_is = t.size_is;
            kept = t.kept;
          }

      module _ (z : get_or places (get_or T e 0 % max_nodes) None ≡ None) where
        pub turning_room : n < length places
        turning_room = omega (arith, missing_set places (get_or T e 0 % max_nodes) 0 next_in z, t.found)

        pub turning_new : Turning T starts h v q₀ n₀ size (set q n (h * max_moves + get_or T e 0 % max_moves)) (set places (get_or T e 0 % max_nodes) (Some n)) (n + 1) (e + 1)
        turning_new =
            let w : (h * max_moves + get_or T e 0 % max_moves) % max_nodes ≡ get_or T e 0 % max_nodes = omega arith in
            let room : n < length q = omega (arith, turning_room, t.room.queue) in
            record {
              x = get_or T e 0 % max_moves + 1;
              within = omega arith;
              begun = omega (arith, t.begun);
              low = low_next;
              high = λ k l m. omega (arith, later k (omega arith) m, is_step);
              here = omega (arith, t.here);
              node = rw (old h t.here) t.node;
              room = record { queue = simp length-set t.room.queue; small = simp length-set t.room.small };
              found = rw length-set (omega (arith, missing_set places (get_or T e 0 % max_nodes) n next_in z, t.found));
              seats = rw w at (places_push q places n (h * max_moves + get_or T e 0 % max_moves) t.seats room (rw w next_in) (rw w z));
              tree = rw regroup at (tree_push (leads T) q n (h * max_moves + t.x) t.tree h (get_or T e 0 % max_moves) t.here (omega arith) (omega arith) high' only
                  (λ v m r. r.0) this fresh room);
              size_is = simp length-set t.size_is;
              kept = record { count = omega (arith, t.kept.count); entries = λ j l. old j (omega (arith, t.kept.count)) ∙ t.kept.entries j l };
            }
          where
            old : (j : ℕ) → j < n → get_or (set q n (h * max_moves + get_or T e 0 % max_moves)) j 0 ≡ get_or q j 0
            old j l = get_or-set_other q n j _ 0 (omega arith)

            fresh : (j : ℕ) → j < n → node_at q j ≡ get_or T e 0 % max_moves % max_nodes → ⊥
            fresh j l d =
                let same : node_at q j ≡ get_or T e 0 % max_nodes = omega arith in
                none-some j (sym z ∙ ap (λ (i : ℕ). get_or places i None) (sym same) ∙ t.seats.seat j l)

-- ------------------------------------------------------------------ the steps as the code reads them

-- a test of a place of the table
pub found_none : (o : Option ℕ) (test : Bool) → is_some o ≡ not test → test ≡ true → o ≡ None
found_none None test e y = refl
found_none (Some j) test e y = absurd (false≢true (sym (e ∙ ap not y)))

pub found_some : (o : Option ℕ) (test : Bool) → is_some o ≡ not test → test ≡ false → (j : ℕ) × (o ≡ Some j)
found_some None test e n = absurd (false≢true (e ∙ ap not n))
found_some (Some j) test e n = (j, refl)

-- before the first step
pub items_start : (T starts : List ℕ) (h size : ℕ) → Made T starts size → (q : List ℕ) (places : List (Option ℕ)) (n v : ℕ) → length places ≡ size → v < size
    → node_at q h ≡ v → h < n → Searching (leads T) q places n h → Turning T starts h v q n size q places n (get_or starts v 0 + 0)
items_start T starts h size made q places n v size_is v_in node here s =
    let e : h * max_moves ≡ h * max_moves + 0 = omega arith in
    record {
      x = 0;
      within = omega arith;
      begun = omega arith;
      low = λ k l. omega (arith, made.below v k (omega arith) (omega arith));
      high = λ k l m. omega (arith, made.above v k (omega arith) (omega arith) m);
      here = here;
      node = node;
      room = s.room;
      found = s.found;
      seats = s.seats;
      tree = rw e at s.tree;
      size_is = size_is;
      kept = record { count = omega arith; entries = λ j l. refl };
    }

-- from the node v at place h, with the steps that leave it in a list of their own, at place i of which is the step s
module _ (T starts : List ℕ) (h size : ℕ) (made : Made T starts size) (q₀ : List ℕ) (n₀ v : ℕ) (items : List ℕ)
    (are : items ≡ take (get_or starts (v + 1) 0 - get_or starts v 0) (drop (get_or starts v 0) T)) (q : List ℕ) (places : List (Option ℕ)) (n i : ℕ)
    (t : Turning T starts h v q₀ n₀ size q places n (get_or starts v 0 + i)) where
  v_in : v < size
  v_in = omega (arith, t.seats.inside h t.here, t.node, t.size_is)

  pub items_end : length items ≤ i → Searching (leads T) q places n (h + 1)
  items_end over =
      let v_in' = v_in in
      turning_end T starts h size made q₀ n₀ v v_in q places n (get_or starts v 0 + i) t
      (omega (
        arith,
        ap length are,
        length-take (get_or starts (v + 1) 0 - get_or starts v 0) (drop (get_or starts v 0) T),
        length-drop (get_or starts v 0) T,
        made.inside (v + 1) (omega arith),
        made.inside v (omega arith),
      ))

  -- it leads to the node `next`
  module _ (more : i < length items) (s : ℕ) (is : s ≡ get_or items i s) (next : ℕ) (to : next ≡ s % max_nodes) where
    more_steps : get_or starts v 0 + i < get_or starts (v + 1) 0
    more_steps = omega (arith, ap length are, length-take (get_or starts (v + 1) 0 - get_or starts v 0) (drop (get_or starts v 0) T))

    step_is : s ≡ get_or T (get_or starts v 0 + i) 0
    step_is =
        get_or_read items i s more is 0
        ∙ ap (λ (l : List ℕ). get_or l i 0) are
        ∙ get_or-take (get_or starts (v + 1) 0 - get_or starts v 0) (drop (get_or starts v 0) T) i 0 (omega (arith, more_steps))
        ∙ get_or-drop (get_or starts v 0) T i 0

    next_is : next ≡ get_or T (get_or starts v 0 + i) 0 % max_nodes
    next_is = to ∙ ap (λ (k : ℕ). k % max_nodes) step_is

    pub item_in : next < length places
    item_in = rw next_is (next_in T starts h size made q₀ n₀ v v_in q places n (get_or starts v 0 + i) t more_steps)

    regroup_items : get_or starts v 0 + (i + 1) ≡ get_or starts v 0 + i + 1
    regroup_items = omega arith

    pub item_old : (j : ℕ) → get_or places next None ≡ Some j → Turning T starts h v q₀ n₀ size q places n (get_or starts v 0 + (i + 1))
    item_old j e = rw regroup_items (turning_old T starts h size made q₀ n₀ v v_in q places n (get_or starts v 0 + i) t more_steps j (rw next_is at e))

    module _ (e : get_or places next None ≡ None) where
      at_step : get_or places (get_or T (get_or starts v 0 + i) 0 % max_nodes) None ≡ None
      at_step = rw next_is at e

      pub item_room : n < length q
      item_room = omega (arith, turning_room T starts h size made q₀ n₀ v v_in q places n (get_or starts v 0 + i) t more_steps at_step, t.room.queue)

      pub item_new : (entry : ℕ) → entry ≡ h * max_moves + s % max_moves → Turning T starts h v q₀ n₀ size (set q n entry) (set places next (Some n)) (n + 1) (get_or starts v 0 + (i + 1))
      item_new entry f =
          rw (f, regroup_items, next_is, step_is) (turning_new T starts h size made q₀ n₀ v v_in q places n (get_or starts v 0 + i) t more_steps at_step)
