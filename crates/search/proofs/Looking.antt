-- The search for a target, turn by turn, and what it tells when it ends.
use mathlib.Core.Path.{◌≡◌, refl, sym, ap, ◌∙◌}
use mathlib.Core.Logic.{inl, inr, ⊎_elim}
use mathlib.Core.List.{List}
use Rattle.std.specs.Prelude.{Option, Some, None}
use Prim.Native.Nat.{ℕ, ◌+◌, ◌≤◌, ◌<◌}
use native.Mathlib.Omega.{arith}
use lib.ListN.{length, get_or, set, replicate, length-set, length-replicate}
use Rattle.std.proofs.lemmas.List.{get_or-replicate}
use Rattle.std.proofs.lemmas.Option.{same_Some}
use lib.Seq.{get_or-set_same}
use Rattle.search.specs.declared.Searched.{Searched}
use Rattle.search.specs.Steps.{max_nodes, max_moves, Moves, Best}
use Rattle.search.specs.Queue.{node_at, Searching, Kept}
use Rattle.search.specs.Promise.{path_to, SearchedFrom}
use Rattle.search.proofs.Tree.{below, missing_set, missing_all, places_start, tree_start}
use Rattle.search.proofs.Shortest.{order, best_at, none_missing, all_found}

-- all steps of the places before h are done, and the target stands at none of them
pub record Looking (R : Moves) (size from target : ℕ) (q : List ℕ) (places : List (Option ℕ)) (n h : ℕ) : Type 0 where
  pub state : Searching R q places n h
  pub passed : (j : ℕ) → j < h → node_at q j ≡ target → ⊥
  pub sofar : h ≤ n
  pub first_is : get_or q 0 0 ≡ from
  pub size_is : length places ≡ size

abbrev pub searched : ℕ → ℕ → Option ℕ → Searched
searched t f r = record { taken = t; found = f; target = r }

module _ (R : Moves) (from target : ℕ) where
  -- what is put first is the node to search from
  pub looking_start : (q : List ℕ) (size : ℕ) → length q ≡ size → size ≤ max_nodes → from < size → (first : ℕ) → first ≡ from
      → Looking R size from target (set q 0 first) (set (replicate size None) from (Some 0)) 1 0
  looking_start q size long few small first first_from =
      let places : List (Option ℕ) = replicate size None in
      let all : length places ≡ size = length-replicate size None in
      let inside : from < length places = omega arith in
      let clear : (v : ℕ) → v < length places → get_or places v None ≡ None = λ v l. get_or-replicate size v None None (omega arith) in
      let some : 0 < length q = omega arith in
      let first_is : get_or (set q 0 first) 0 0 ≡ from = get_or-set_same q 0 first 0 some ∙ first_from in
      let same : length (set places from (Some 0)) ≡ size = length-set places from (Some 0) ∙ all in
      record {
        state = record {
          room = record { queue = rw (length-set q 0 first) (omega arith); small = omega arith };
          found = omega (arith, missing_set places from 0 inside (clear from inside), missing_all size);
          seats = rw first_from (places_start q places from some inside (omega arith) clear);
          tree = tree_start R (set q 0 first) (rw first_is (omega arith));
        };
        passed = λ j l e. omega arith;
        sofar = omega arith;
        first_is = first_is;
        size_is = same;
      }

  -- one turn more
  pub looking_turn : (size : ℕ) (q : List ℕ) (places : List (Option ℕ)) (n h : ℕ) → Looking R size from target q places n h → h < n → (node_at q h ≡ target → ⊥)
      → (q' : List ℕ) (places' : List (Option ℕ)) (n' : ℕ) → Searching R q' places' n' (h + 1) → Kept q n q' n' → length places' ≡ length places
      → Looking R size from target q' places' n' (h + 1)
  looking_turn size q places n h s here not_target q' places' n' state kept same = record {
    state = state;
    passed = λ j l e.
        let j_in : j < n = omega arith in
        let old : node_at q j ≡ target = rw (kept.entries j j_in) at e in
        ⊎_elim (λ (o : j < h). s.passed j o old) (λ (o : j ≡ h). not_target (rw o at old)) (below j h l);
    sofar = omega (arith, kept.count);
    first_is = let first : 0 < n = omega arith in kept.entries 0 first ∙ s.first_is;
    size_is = same ∙ s.size_is;
  }

  module _ (lows : (v m : ℕ) → R v m → m < max_moves) (size : ℕ) (q : List ℕ) (places : List (Option ℕ)) (n h : ℕ) (s : Looking R size from target q places n h) where
    once : (i j : ℕ) → i < n → j < n → node_at q i ≡ node_at q j → i ≡ j
    once i j l m e = same_Some i j (sym (s.state.seats.seat i l) ∙ ap (λ (v : ℕ). get_or places v None) e ∙ s.state.seats.seat j m)

    best : (j : ℕ) → j ≤ h → j < n → Best R from (path_to q j) (node_at q j)
    best j l m = best_at R from q n h s.state.tree s.first_is lows j l m (λ i o e. once i j o m e)

    few : n ≤ size
    few = omega (arith, s.state.found, s.size_is)

    told_here : h < n → node_at q h ≡ target → SearchedFrom R size from target q places (searched (h + 1) n (Some h))
    told_here here is = record {
      best = λ j l. best j (omega arith) (omega arith);
      order = λ i j l m. order q n s.state.tree.falls s.state.tree.rises i j l (omega arith);
      all = λ ms b p. ⊎_elim inl (λ later. inr (h, refl, later)) (none_missing R from q n h s.state.tree s.first_is lows h (omega arith) here ms b p);
      ends = (refl, is);
      passed = λ j l e. ⊎_elim (λ (o : j < h). absurd (s.passed j o e)) (λ (o : j ≡ h). rw o) (below j h l);
      start = (omega arith, s.first_is);
      count = (omega arith, few);
      falls = s.state.tree.falls;
      queue_long = s.state.room.queue ∙ s.size_is;
      places_long = s.size_is;
      seats = s.state.seats;
    }

    -- p is the place of the target
    pub told_reached : (p : ℕ) → p ≡ h → h < n → node_at q h ≡ target → SearchedFrom R size from target q places (searched (h + 1) n (Some p))
    told_reached p p_is here is = rw p_is (told_here here is)

    pub told_ended : n ≤ h → SearchedFrom R size from target q places (searched h n None)
    told_ended over = record {
      best = λ j l. best j (omega arith) (omega (arith, s.sofar));
      order = λ i j l m. order q n s.state.tree.falls s.state.tree.rises i j l (omega (arith, s.sofar));
      all = λ ms b p.
          let f = all_found R from q n h s.state.tree s.first_is lows h (omega arith) over ms b p in
          let l : f.0 < n = f.1 in
          inl (f.0, omega arith, f.2);
      ends = omega (arith, s.sofar);
      passed = λ j l e. absurd (s.passed j l e);
      start = (omega (arith, s.state.tree.some), s.first_is);
      count = (s.sofar, few);
      falls = s.state.tree.falls;
      queue_long = s.state.room.queue ∙ s.size_is;
      places_long = s.size_is;
      seats = s.state.seats;
    }
