-- What holds of paths over relations alone, whatever they come from: the right answer is one only, and nothing but the reachable
-- relations counts.
use mathlib.Core.Path.{◌≡◌, refl, ap}
use mathlib.Core.Logic.{◌↔◌}
use mathlib.Core.List.{List, [], ◌∷◌}
use Rattle.std.specs.Prelude.{Option, Some, None}
use Rattle.model.specs.declared.Kind.{Kind}
use Rattle.model.specs.Bytes.{Bytes}
use Rattle.model.specs.Path.{Step}
use Rattle.model.specs.Statements.{Relation, IsPath, Best, Reachable}
use Rattle.search.proofs.Compared.{best_unique}

-- no path, or the best one
abbrev pub RightPath : Relation → Bytes → Bytes → Option (List Step) → Type 0
RightPath R a b None = (ss : List Step) → IsPath R a ss b → ⊥
RightPath R a b (Some ss) = Best R a ss b

pub right_unique : (R : Relation) (a b : Bytes) (p q : Option (List Step)) → RightPath R a b p → RightPath R a b q → p ≡ q
right_unique R a b None None h i = refl
right_unique R a b None (Some ts) h i = absurd (h ts i.path)
right_unique R a b (Some ss) None h i = absurd (i ss h.path)
right_unique R a b (Some ss) (Some ts) h i = ap {B = Option (List Step)} Some (best_unique R a b ss ts h i)

-- ------------------------------------------------------------------ only the reachable relations count

abbrev pub SameReach : Relation → Relation → Option Bytes → Type 0
SameReach R R' a = (n : Bytes) → Reachable R a n → (k : Kind) (m : Bytes) → R k n m ↔ R' k n m

module _ (R R' : Relation) where
  from_next : (a : Bytes) (s : Step) → R s.kind a s.next → SameReach R R' (Some a) → SameReach R R' (Some s.next)
  unfolding IsPath
  from_next a s r h n p k m = h n (s ∷ p.0, (r, p.1)) k m

  path_there : (ss : List Step) (a b : Bytes) → SameReach R R' (Some a) → IsPath R a ss b → IsPath R' a ss b
  unfolding IsPath
  path_there [] a b h p = p
  path_there (s ∷ ss) a b h p = ((h a ([], refl) s.kind s.next).0 p.0, path_there ss s.next b (from_next a s p.0 h) p.1)

  path_back : (ss : List Step) (a b : Bytes) → SameReach R R' (Some a) → IsPath R' a ss b → IsPath R a ss b
  unfolding IsPath
  path_back [] a b h p = p
  path_back (s ∷ ss) a b h p =
      let r : R s.kind a s.next = (h a ([], refl) s.kind s.next).1 p.0 in
      (r, path_back ss s.next b (from_next a s r h) p.1)

  pub right_carry : (a b : Bytes) → SameReach R R' (Some a) → (p : Option (List Step)) → RightPath R a b p → RightPath R' a b p
  right_carry a b h None p = λ ss q. p ss (path_back ss a b h q)
  right_carry a b h (Some ss) p = record { path = path_there ss a b h p.path; first = λ ts q. p.first ts (path_back ts a b h q) }

  pub right_local : (a b : Bytes) → SameReach R R' (Some a) → (p q : Option (List Step)) → RightPath R a b p → RightPath R' a b q → p ≡ q
  right_local a b h p q i j = right_unique R' a b p q (right_carry a b h p i) j
