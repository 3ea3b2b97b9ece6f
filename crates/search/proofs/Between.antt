-- A question between two graphs, each named or not, over any relations: it is answered right, and nothing but the reachable relations
-- counts.
use mathlib.Core.Path.{◌≡◌, refl, sym, ap, ◌∙◌}
use mathlib.Core.Bool.{Bool, true, false, cond}
use mathlib.Core.List.{List}
use Rattle.std.specs.Prelude.{Ok, Option, Some, None, Err}
use Prim.Native.Nat.{ℕ}
use lib.ListN.{length}
use lib.Dec.{leb}
use Rattle.model.specs.declared.fault.Fault.TheVariants.{OutputShort}
use borrow.Author.Tests.{le-leb, leb-true, leb-false}
use Rattle.model.specs.Bytes.{Bytes}
use Rattle.model.specs.Path.{Step, Relations, between, best_path, path_bytes}
use Rattle.model.specs.Outcome.{Answer, answered, name_or, sized}
use Rattle.model.specs.Statements.{Relation, Best, RightBetween, Right, HasRoom}
use Rattle.search.specs.Related.{StandsFor}
use Rattle.search.proofs.Local.{RightPath, SameReach, right_local}
use Rattle.search.proofs.Right.{best_right}

-- what is answered where there is this much room
abbrev pub answer_over : Relations → Option Bytes → Option Bytes → ℕ → Answer
answer_over r m n room = sized room (answered (name_or m) (between r m n))

pub right_over : (r : Relations) (R : Relation) → StandsFor r R → (m n : Option Bytes) (room : ℕ) → Right R m n room (answer_over r m n room)
right_over r R s None n room = refl
right_over r R s (Some a) None room = refl
right_over r R s (Some a) (Some b) room = go (best_path r a b) (best_right r R s a b)
  where
    fits : (ss : List Step) → Best R a ss b → (t : Bool) → leb (length (path_bytes a ss)) room ≡ t
        → RightBetween R a b room (cond t (Ok (Some (path_bytes a ss))) (Err OutputShort))
    fits ss h true e = (ss, h, refl, leb-true (length (path_bytes a ss)) room e)
    fits ss h false e = (refl, (ss, h, leb-false (length (path_bytes a ss)) room e))

    go : (o : Option (List Step)) → RightPath R a b o → RightBetween R a b room (sized room (answered a o))
    go None h = h
    go (Some ss) h = fits ss h (leb (length (path_bytes a ss)) room) refl

-- an answer that has room is whole
whole : (r : Relations) (R : Relation) → StandsFor r R → (m n : Option Bytes) (room : ℕ) → HasRoom R m n room
    → answer_over r m n room ≡ answered (name_or m) (between r m n)
whole r R s None n room h = refl
whole r R s (Some a) None room h = refl
whole r R s (Some a) (Some b) room h = go (best_path r a b) (best_right r R s a b)
  where
    go : (o : Option (List Step)) → RightPath R a b o → sized room (answered a o) ≡ answered a o
    go None i = refl
    go (Some ss) i = rw (le-leb (length (path_bytes a ss)) room (h ss i))

module _ (r r' : Relations) (R R' : Relation) (s : StandsFor r R) (s' : StandsFor r' R') where
  between_local : (m n : Option Bytes) → SameReach R R' m → between r m n ≡ between r' m n
  between_local None n h = refl
  between_local (Some a) None h = refl
  between_local (Some a) (Some b) h = right_local R R' a b h (best_path r a b) (best_path r' a b) (best_right r R s a b) (best_right r' R' s' a b)

  pub local_over : (m n : Option Bytes) (room room' : ℕ) → SameReach R R' m → HasRoom R m n room → HasRoom R' m n room'
      → answer_over r m n room ≡ answer_over r' m n room'
  local_over m n room room' same k k' =
      whole r R s m n room k ∙ ap (answered (name_or m)) (between_local m n same) ∙ sym (whole r' R' s' m n room' k')
