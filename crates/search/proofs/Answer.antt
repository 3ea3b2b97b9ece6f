-- The answer of a search between nodes that stand for names: it is the right one, so it is the definition's `best_path` over lists that
-- stand for the same relations.
use mathlib.Core.Path.{◌≡◌, refl}
use mathlib.Core.List.{List}
use Rattle.std.specs.Prelude.{Option, Some, None}
use Prim.Native.Nat.{ℕ, ◌<◌}
use Rattle.model.specs.Bytes.{Bytes}
use Rattle.model.specs.Path.{Step, Relations, best_path}
use Rattle.model.specs.Questions.{mapped}
use Rattle.model.specs.Statements as names
use Rattle.search.specs.declared.Searched.{Searched}
use Rattle.search.specs.Steps.{Moves}
use Rattle.search.specs.Promise.{path_to, SearchedFrom}
use Rattle.search.specs.Names.{steps_of, Stands}
use Rattle.search.specs.Related.{StandsFor}
use Rattle.search.proofs.Laws.{best_target, no_path}
use Rattle.search.proofs.Named.{names_apart, path_back, best_there}
use Rattle.search.proofs.Local.{RightPath, right_unique}
use Rattle.search.proofs.Right.{best_right}

module _ (M : Moves) (size : ℕ) (name : ℕ → Bytes) (R : names.Relation) (stands : Stands M size name R)
    (from target : ℕ) (inside : from < size) (asked : target < size) (q : List ℕ) (places : List (Option ℕ)) (r : Searched) (s : SearchedFrom M size from target q places r) where
  -- the path to a place of the queue
  abbrev path_at : ℕ → List Step
  path_at place = steps_of name (path_to q place)

  target_none : r.target ≡ None → (ss : List Step) → names.IsPath R (name from) ss (name target) → ⊥
  target_none e ss p =
      let f = path_back M size name R stands ss from (name target) inside p in
      let d : f.end ≡ target = names_apart M size name R stands f.end target f.inside asked f.named in
      no_path M size from target q places r s e f.moves (rw d at f.path)

  pub answer_right : RightPath R (name from) (name target) (mapped path_at r.target)
  answer_right = go r.target refl
    where
      go : (t : Option ℕ) → r.target ≡ t → RightPath R (name from) (name target) (mapped path_at t)
      go (Some place) e = best_there M size name R stands (path_to q place) from target inside asked (best_target M size from target q places r s place e)
      go None e = target_none e

  pub answer_is : (p : Relations) → StandsFor p R → best_path p (name from) (name target) ≡ mapped path_at r.target
  answer_is p lists = right_unique R (name from) (name target) _ _ (best_right p R lists (name from) (name target)) answer_right
