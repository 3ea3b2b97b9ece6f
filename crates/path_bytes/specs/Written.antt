-- The bytes of a path, read back from the places of a search's queue, whose nodes have these names.
use Rattle.std.specs.Prelude.{◌≡◌, List, [], ◌∷◌, ◌++◌, ℕ, ◌+◌, ◌≤◌, ◌<◌, length, Option, Some, None, Ok}
use Rattle.model.specs.declared.Kind.{Kind}
use Rattle.model.specs.Bytes.{Bytes, put}
use Rattle.model.specs.Numbers.{le16}
use Rattle.model.specs.Opening.{Given, settled}
use Rattle.model.specs.Path.{Step, kind_number, path_bodies, path_bytes}
use Rattle.model.specs.Outcome.{Answer, sized, output_after}
use Rattle.search.specs.Steps.{max_nodes}
use Rattle.search.specs.Queue.{node_at}
use Rattle.search.specs.Promise.{path_to, Back}
use Rattle.search.specs.Names.{steps_of}
use Rattle.path_bytes.specs.Layout.{first_entry, entry_at}

-- the number of a step's kind in the entry of the name that it leaves; none leaves the last name
abbrev pub step_number : Option Kind → ℕ
step_number None = 2
step_number (Some k) = kind_number k

-- the entries of a path's names, with this kind in the last one
unfoldable pub entries_with : Option Kind → Bytes → List Step → Bytes
entries_with k a [] = le16 (length a) ++ le16 (step_number k)
entries_with k a (s ∷ ss) = le16 (length a) ++ le16 (kind_number s.kind) ++ entries_with k s.next ss

-- the path to a place, the name that it starts from, and how long its names are together
abbrev pub path_back : (ℕ → Bytes) → List ℕ → ℕ → List Step
path_back name q place = steps_of name (path_to q place)

abbrev pub start_name : (ℕ → Bytes) → List ℕ → Bytes
start_name name q = name (node_at q 0)

abbrev pub bodies_to : (ℕ → Bytes) → List ℕ → ℕ → ℕ
bodies_to name q place = length (path_bodies (start_name name q) (path_back name q place))

-- the path to a place can be read back, and each node on it has a name
pub record Readback (n : ℕ) (q : List ℕ) (place : ℕ) : Type 0 where
  pub back : Back q place
  pub nodes : (j : ℕ) → j ≤ place → node_at q j < n
  pub small : place < max_nodes

-- it has so many steps, and there is room for the bodies from byte `at` on, behind the entries
pub record Writable (name : ℕ → Bytes) (n : ℕ) (q : List ℕ) (place step : ℕ) (out : Bytes) (at : ℕ) : Type 0 where
  pub from : Readback n q place
  pub steps : step ≡ length (path_to q place)
  pub entries : entry_at (step + 1) ≤ at
  pub bodies : at + bodies_to name q place ≤ length out

-- the names of the path are written: the entries, the last with `kind`, and the bodies from byte `at` up to r
pub record NamesWritten (name : ℕ → Bytes) (q : List ℕ) (place : ℕ) (out : Bytes) (at : ℕ) (kind : Option Kind) (r : ℕ) (o : Bytes) : Type 0 where
  pub end : r ≡ at + bodies_to name q place
  pub is : o
      ≡ put (put out first_entry (entries_with kind (start_name name q) (path_back name q place))) at (path_bodies (start_name name q) (path_back name q place))

-- yes with the path's bytes, if there is room for them
abbrev pub path_answer : (ℕ → Bytes) → List ℕ → ℕ → Bytes → Answer
path_answer name q place out = sized (length out) (Ok (Some (path_bytes (start_name name q) (path_back name q place))))

-- whether there is room for the bytes of the path, and what the output then holds
abbrev pub PathWritten : (ℕ → Bytes) → List ℕ → ℕ → Bytes → Given Unit → Bytes → Type 0
PathWritten name q place out r o = (r ≡ settled (path_answer name q place out)) × (o ≡ output_after (path_answer name q place out) out)
