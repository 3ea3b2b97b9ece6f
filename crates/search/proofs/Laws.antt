-- What the promise of a search says of its target: it is reached exactly if there is a path to it, and then its place has the best one;
-- where it is no node, nothing is left.
use mathlib.Core.Path.{◌≡◌, refl, sym, ◌∙◌}
use mathlib.Core.Logic.{⊎_elim}
use mathlib.Core.List.{List}
use Rattle.std.specs.Prelude.{Option, Some, None}
use Prim.Native.Nat.{ℕ, ◌+◌, ◌≤◌, ◌<◌}
use native.Mathlib.Omega.{arith}
use Rattle.std.proofs.lemmas.Option.{none-some}
use Rattle.search.specs.declared.Searched.{Searched}
use Rattle.search.specs.Steps.{Moves, IsPath, Earlier, Best}
use Rattle.search.specs.Queue.{node_at}
use Rattle.search.specs.Promise.{path_to, Back, Among, Ends, SearchedFrom}

module _ (R : Moves) (size from target : ℕ) (q : List ℕ) (places : List (Option ℕ)) (r : Searched) (s : SearchedFrom R size from target q places r) where
  -- the target is reached exactly if there is a path to it
  pub reached_if : (ms : List ℕ) → IsPath R from ms target → (place : ℕ) × (r.target ≡ Some place)
  reached_if ms p = ⊎_elim
      (λ (f : Among q r.taken target). (f.0, s.passed f.0 f.1 f.2))
      (λ (f : (place : ℕ) × (r.target ≡ Some place) × ((j : ℕ) → j < r.taken → Earlier (path_to q j) ms)). (f.0, f.1))
      (s.all ms target p)

  pub target_last : (place : ℕ) → r.target ≡ Some place → (place + 1 ≡ r.taken) × (node_at q place ≡ target)
  target_last place e = rw e at s.ends

  pub best_target : (place : ℕ) → r.target ≡ Some place → Best R from (path_to q place) target
  best_target place e = let l = target_last place e in rw l.1 at (s.best place (omega (arith, l.0)))

  pub no_path : r.target ≡ None → (ms : List ℕ) → IsPath R from ms target → ⊥
  no_path e ms p = let f = reached_if ms p in none-some f.0 (sym e ∙ f.1)

  pub node_inside : (j : ℕ) → j < r.taken → node_at q j < size
  node_inside j l = omega (arith, s.seats.inside j (omega (arith, s.count.0)), s.places_long)

  -- with a target that is no node the search runs to the end
  pub whole_run : size ≤ target → r.taken ≡ r.found
  whole_run l = go r.target refl s.ends
    where
      go : (t : Option ℕ) → r.target ≡ t → Ends q target r.taken r.found t → r.taken ≡ r.found
      go (Some place) e h = absurd (omega (arith, h.1, node_inside place (omega (arith, h.0))))
      go None e h = h

  -- every found place can be walked back from
  pub leads_back : (j : ℕ) → j < r.found → Back q j
  leads_back j l = record { inside = omega (arith, s.count.1, s.queue_long); falls = λ i z m. s.falls i z (omega arith) }
