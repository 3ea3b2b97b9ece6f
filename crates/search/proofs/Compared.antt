-- The order of paths between names is strict, so that the best one is one only.
use mathlib.Core.Path.{◌≡◌, sym}
use mathlib.Core.Logic.{◌⊎◌, inl, inr}
use mathlib.Core.List.{List, [], ◌∷◌}
use Prim.Native.Nat.{◌<◌}
use native.Mathlib.Omega.{arith}
use lib.ListN.{length}
use Rattle.model.specs.declared.Kind.{Kind}
use Rattle.model.specs.declared.Kind.TheVariants.{Subgraph, Translation}
use Rattle.model.specs.Bytes.{Bytes}
use Rattle.model.specs.Path.{Step}
use Rattle.model.specs.Statements.{Relation, KindBefore, StepBefore, Before, Best}
use Rattle.text.proofs.Order.{bytes_order}
use Rattle.text.proofs.Ascending.{less_asym}

-- ss has fewer steps than ts, or as many and comes before
abbrev pub Earlier : List Step → List Step → Type 0
Earlier ss ts = (length ss < length ts) ⊎ ((length ss ≡ length ts) × Before ss ts)

abbrev pub NotLater : List Step → List Step → Type 0
NotLater ss ts = (ts ≡ ss) ⊎ Earlier ss ts

pub same_kind : (k : Kind) (P : Type 0) → P → KindBefore k k P
same_kind Subgraph P h = h
same_kind Translation P h = h

kind_asym : (j k : Kind) (P Q : Type 0) → (P → Q → ⊥) → KindBefore j k P → KindBefore k j Q → ⊥
kind_asym Subgraph Subgraph P Q f h i = f h i
kind_asym Subgraph Translation P Q f h i = i
kind_asym Translation Subgraph P Q f h i = h
kind_asym Translation Translation P Q f h i = f h i

step_asym : (s t : Step) → StepBefore s t → StepBefore t s → ⊥
step_asym s t h i = kind_asym s.kind t.kind _ _ (less_asym bytes_order s.next t.next) h i

before_asym : (ss ts : List Step) → Before ss ts → Before ts ss → ⊥
unfolding Before
before_asym [] ts h i = h
before_asym (s ∷ ss) [] h i = h
before_asym (s ∷ ss) (t ∷ ts) (inl h) (inl i) = step_asym s t h i
before_asym (s ∷ ss) (t ∷ ts) (inl h) (inr i) = let e : StepBefore s s = rw i.0 at h in step_asym s s e e
before_asym (s ∷ ss) (t ∷ ts) (inr h) (inl i) = let e : StepBefore t t = rw h.0 at i in step_asym t t e e
before_asym (s ∷ ss) (t ∷ ts) (inr h) (inr i) = before_asym ss ts h.1 i.1

earlier_asym : (ss ts : List Step) → Earlier ss ts → Earlier ts ss → ⊥
earlier_asym ss ts (inl h) (inl i) = omega arith
earlier_asym ss ts (inl h) (inr i) = let e = i.0 in omega arith
earlier_asym ss ts (inr h) (inl i) = let e = h.0 in omega arith
earlier_asym ss ts (inr h) (inr i) = before_asym ss ts h.1 i.1

-- the best path is one only
pub best_unique : (R : Relation) (a b : Bytes) (ss ts : List Step) → Best R a ss b → Best R a ts b → ss ≡ ts
best_unique R a b ss ts p q = go (p.first ts q.path) (q.first ss p.path)
  where
    go : NotLater ss ts → NotLater ts ss → ss ≡ ts
    go (inl e) i = sym e
    go (inr h) (inl e) = e
    go (inr h) (inr i) = absurd (earlier_asym ss ts h i)
