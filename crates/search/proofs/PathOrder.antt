-- The order of paths: it passes on, and one step more at the end keeps it; and paths with one step more.
use mathlib.Core.Path.{◌≡◌, refl, sym, ◌∙◌}
use mathlib.Core.Logic.{inl, inr}
use mathlib.Core.List.{List, [], ◌∷◌, ◌++◌, append-nil}
use Prim.Native.Nat.{ℕ, ◌%◌, ◌<◌}
use native.Mathlib.Omega.{arith}
use lib.ListN.{length-append}
use Rattle.search.specs.Steps.{max_nodes, Moves, IsPath, Before, Earlier, NotLater}

before_trans : (ms ks ls : List ℕ) → Before ms ks → Before ks ls → Before ms ls
unfolding Before
before_trans [] ks ls h i = absurd h
before_trans (m ∷ ms) [] ls h i = absurd h
before_trans (m ∷ ms) (k ∷ ks) [] h i = absurd i
before_trans (m ∷ ms) (k ∷ ks) (l ∷ ls) (inl h) (inl i) = inl (omega arith)
before_trans (m ∷ ms) (k ∷ ks) (l ∷ ls) (inl h) (inr i) = inl (let e = i.0 in omega arith)
before_trans (m ∷ ms) (k ∷ ks) (l ∷ ls) (inr h) (inl i) = inl (let e = h.0 in omega arith)
before_trans (m ∷ ms) (k ∷ ks) (l ∷ ls) (inr h) (inr i) = inr (h.0 ∙ i.0, before_trans ms ks ls h.1 i.1)

-- ------------------------------------------------------------------ by length, then in that order

pub earlier_trans : (ms ks ls : List ℕ) → Earlier ms ks → Earlier ks ls → Earlier ms ls
earlier_trans ms ks ls (inl h) (inl i) = inl (omega arith)
earlier_trans ms ks ls (inl h) (inr i) = inl (omega arith)
earlier_trans ms ks ls (inr h) (inl i) = inl (omega arith)
earlier_trans ms ks ls (inr h) (inr i) = inr (omega arith, before_trans ms ks ls h.1 i.1)

pub not_later_trans : (ms ks ls : List ℕ) → NotLater ms ks → NotLater ks ls → NotLater ms ls
not_later_trans ms ks ls (inl e) i = rw e at i
not_later_trans ms ks ls (inr h) (inl e) = inr (rw e h)
not_later_trans ms ks ls (inr h) (inr i) = inr (earlier_trans ms ks ls h i)

-- ------------------------------------------------------------------ one step more at the end

before_snoc : (ms ks : List ℕ) (m k : ℕ) → Before ms ks → Before (ms ++ (m ∷ [])) (ks ++ (k ∷ []))
unfolding Before
before_snoc [] ks m k h = absurd h
before_snoc (x ∷ ms) [] m k h = absurd h
before_snoc (x ∷ ms) (y ∷ ks) m k (inl h) = inl h
before_snoc (x ∷ ms) (y ∷ ks) m k (inr h) = inr (h.0, before_snoc ms ks m k h.1)

before_last : (ms : List ℕ) (m k : ℕ) → m < k → Before (ms ++ (m ∷ [])) (ms ++ (k ∷ []))
unfolding Before
before_last [] m k h = inl h
before_last (x ∷ ms) m k h = inr (refl, before_last ms m k h)

pub earlier_snoc : (ms ks : List ℕ) (m k : ℕ) → Earlier ms ks → Earlier (ms ++ (m ∷ [])) (ks ++ (k ∷ []))
earlier_snoc ms ks m k (inl h) = inl (simp length-append (omega arith))
earlier_snoc ms ks m k (inr h) = inr (simp length-append (omega arith), before_snoc ms ks m k h.1)

pub earlier_last : (ms : List ℕ) (m k : ℕ) → m < k → Earlier (ms ++ (m ∷ [])) (ms ++ (k ∷ []))
earlier_last ms m k h = inr (simp length-append, before_last ms m k h)

pub not_later_snoc : (ms ks : List ℕ) (m : ℕ) → NotLater ms ks → NotLater (ms ++ (m ∷ [])) (ks ++ (m ∷ []))
not_later_snoc ms ks m (inl e) = inl (rw e)
not_later_snoc ms ks m (inr h) = inr (earlier_snoc ms ks m m h)

pub not_later_append : (ms ks ls : List ℕ) → NotLater ms ks → NotLater ms (ks ++ ls)
not_later_append ms ks [] h = rw append-nil h
not_later_append ms ks (l ∷ ls) h = not_later_trans ms ks (ks ++ (l ∷ ls)) h (inr (inl (simp length-append (omega arith))))

-- ------------------------------------------------------------------ paths

pub path_snoc : (R : Moves) (a : ℕ) (ms : List ℕ) (v m : ℕ) → IsPath R a ms v → R v m → IsPath R a (ms ++ (m ∷ [])) (m % max_nodes)
unfolding IsPath
path_snoc R a [] v m p r = (rw p r, refl)
path_snoc R a (x ∷ ms) v m p r = (p.0, path_snoc R (x % max_nodes) ms v m p.1 r)

-- a path leads to one node
pub path_end : (R : Moves) (ms : List ℕ) (a b c : ℕ) → IsPath R a ms b → IsPath R a ms c → b ≡ c
unfolding IsPath
path_end R [] a b c p q = sym p ∙ q
path_end R (m ∷ ms) a b c p q = path_end R ms (m % max_nodes) b c p.1 q.1
