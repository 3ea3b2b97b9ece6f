-- Paths of numbers are paths of names, in the same order, and the best are the best.
use mathlib.Core.Path.{◌≡◌, refl, ap, ap₂}
use mathlib.Core.Logic.{◌⊎◌, inl, inr, ⊎_elim}
use mathlib.Core.List.{List, [], ◌∷◌}
use Prim.Native.Nat.{ℕ, ◌%◌, ◌<◌}
use native.Mathlib.Decide.{dec_lt}
use native.Mathlib.Omega.{arith}
use lib.ListN.{length-map}
use borrow.Author.Tests.{lt-ltb, le-ltb}
use Rattle.std.specs.declared.cmp.Ordering.TheVariants.{Less}
use Rattle.model.specs.Bytes.{Bytes, compare_bytes}
use Rattle.model.specs.Path.{Step}
use Rattle.model.specs.Statements as names
use Rattle.text.proofs.Order.{bytes_order}
use Rattle.text.proofs.Ascending.{less_irrefl, less_asym}
use Rattle.search.specs.Steps.{max_nodes, max_moves, Moves, IsPath, Before, Earlier, Best}
use Rattle.search.proofs.Compared as compared
use Rattle.search.specs.Names.{step_of, steps_of, InOrder, Stands}

-- the numbering tells the names apart, and keeps their order
module _ (name : ℕ → Bytes) (n : ℕ) (order : InOrder name n) where
  pub apart : (i j : ℕ) → i < n → j < n → name i ≡ name j → i ≡ j
  apart i j l m e = go (dec_lt i j) (dec_lt j i)
    where
      go : Dec (i < j) → Dec (j < i) → i ≡ j
      go (yes o) d = absurd (less_irrefl bytes_order (name j) (rw e at (order i j o m)))
      go (no o) (yes p) = absurd (less_irrefl bytes_order (name j) (rw e at (order j i p l)))
      go (no o) (no p) = omega arith

  pub in_order : (i j : ℕ) → i < n → j < n → compare_bytes (name i) (name j) ≡ Less → i < j
  in_order i j l m h = go (dec_lt i j) (dec_lt j i)
    where
      go : Dec (i < j) → Dec (j < i) → i < j
      go (yes o) d = o
      go (no o) (yes p) = absurd (less_asym bytes_order (name i) (name j) h (order j i p l))
      go (no o) (no p) = let e : i ≡ j = omega arith in absurd (less_irrefl bytes_order (name j) (rw e at h))

module _ (M : Moves) (n : ℕ) (name : ℕ → Bytes) (R : names.Relation) (s : Stands M n name R) where
  pub names_apart : (i j : ℕ) → i < n → j < n → name i ≡ name j → i ≡ j
  names_apart = apart name n s.order

  step_before : (m k : ℕ) → m < k → k < max_moves → k % max_nodes < n → names.StepBefore (step_of name m) (step_of name k)
  step_before m k l small inside = go (dec_lt m max_nodes) (dec_lt k max_nodes)
    where
      go : Dec (m < max_nodes) → Dec (k < max_nodes) → names.StepBefore (step_of name m) (step_of name k)
      go (yes a) (yes b) = rw (lt-ltb m max_nodes a, lt-ltb k max_nodes b) (s.order (m % max_nodes) (k % max_nodes) (omega arith) inside)
      go (yes a) (no b) = rw (lt-ltb m max_nodes a, le-ltb k max_nodes (omega arith)) tt
      go (no a) (yes b) = absurd (omega arith)
      go (no a) (no b) = rw (le-ltb m max_nodes (omega arith), le-ltb k max_nodes (omega arith)) (s.order (m % max_nodes) (k % max_nodes) (omega arith) inside)

  before_there : (ms ks : List ℕ) (v c : ℕ) → v < n → IsPath M v ks c → Before ms ks → names.Before (steps_of name ms) (steps_of name ks)
  unfolding IsPath Before names.Before
  before_there [] ks v c l p h = absurd h
  before_there (m ∷ ms) [] v c l p h = absurd h
  before_there (m ∷ ms) (k ∷ ks) v c l p (inl h) = inl (step_before m k h (s.small v k p.0) (s.inside v k p.0).1)
  before_there (m ∷ ms) (k ∷ ks) v c l p (inr h) = inr (ap (step_of name) h.0, before_there ms ks (k % max_nodes) c (s.inside v k p.0).1 p.1 h.1)

  pub earlier_there : (ms ks : List ℕ) (v c : ℕ) → v < n → IsPath M v ks c → Earlier ms ks → compared.Earlier (steps_of name ms) (steps_of name ks)
  earlier_there ms ks v c l p (inl h) = inl (simp length-map h)
  earlier_there ms ks v c l p (inr h) = inr (simp length-map h.0, before_there ms ks v c l p h.1)

  pub path_there : (ms : List ℕ) (v b : ℕ) → v < n → IsPath M v ms b → names.IsPath R (name v) (steps_of name ms) (name b)
  unfolding IsPath names.IsPath
  path_there [] v b l p = ap name p
  path_there (m ∷ ms) v b l p = (s.there v m p.0, path_there ms (m % max_nodes) b (s.inside v m p.0).1 p.1)

  -- a path of names, in numbers
  pub record Numbered (v : ℕ) (ss : List Step) (c : Bytes) : Type 0 where
    pub moves : List ℕ
    pub end : ℕ
    pub inside : end < n
    pub path : IsPath M v moves end
    pub is : steps_of name moves ≡ ss
    pub named : name end ≡ c

  pub path_back : (ss : List Step) (v : ℕ) (c : Bytes) → v < n → names.IsPath R (name v) ss c → Numbered v ss c
  unfolding IsPath names.IsPath
  path_back [] v c l p = record { moves = []; end = v; inside = l; path = refl; is = refl; named = p }
  path_back (t ∷ ss) v c l p =
      let f = s.back t.kind v t.next l p.0 in
      let w : f.0 % max_nodes < n = (s.inside v f.0 f.1).1 in
      let r = path_back ss (f.0 % max_nodes) c w (rw f.3 p.1) in
      let e : step_of name f.0 ≡ t = λ i. record { kind = f.2 i; next = f.3 i } in
      record { moves = f.0 ∷ r.moves; end = r.end; inside = r.inside; path = (f.1, r.path); is = ap₂ ◌∷◌ e r.is; named = r.named }

  pub best_there : (ms : List ℕ) (v b : ℕ) → v < n → b < n → Best M v ms b → names.Best R (name v) (steps_of name ms) (name b)
  best_there ms v b l m h = record { path = path_there ms v b l h.path; first = first }
    where
      first : (ts : List Step) → names.IsPath R (name v) ts (name b) → (ts ≡ steps_of name ms) ⊎ compared.Earlier (steps_of name ms) ts
      first ts p =
          let f = path_back ts v (name b) l p in
          let e : f.end ≡ b = names_apart f.end b f.inside m f.named in
          let q : IsPath M v f.moves b = rw e at f.path in
          rw (← f.is) (⊎_elim
          (λ (d : f.moves ≡ ms). inl (ap (steps_of name) d))
          (λ (d : Earlier ms f.moves). inr (earlier_there ms f.moves v b l q d))
          (h.first f.moves q))
