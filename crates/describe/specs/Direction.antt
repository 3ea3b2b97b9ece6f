-- The direction of a path between the graphs of two records, and the texts for it.
use Rattle.std.specs.Prelude.{◌≡◌, List, ◌++◌, ℕ, length, Some, None, Ok, Err}
use Rattle.model.specs.Bytes.{Bytes}
use Rattle.model.specs.Record.{GraphName}
use Rattle.model.specs.Layout.{decode}
use Rattle.model.specs.Opening.{Given, check_of_both}
use Rattle.model.specs.Path.{Step, full_path, path_bytes}
use Rattle.model.specs.Describe.{after_last_empty, describe_path}
use Rattle.model.specs.Written.{within, with_descs, size_written, output_with}
use Rattle.path_bytes.specs.Layout.{room_for_path}
use Rattle.path_bytes.specs.Reading.{start_at, path_steps}
use Rattle.describe.specs.declared.direction.Direction.{Direction}
use Rattle.describe.specs.declared.direction.Direction.TheVariants.{Forward, Backward, Neither}

-- two records, with no path from the first to the second
pub record NoPath (b c : Bytes) : Type 0 where
  pub g : GraphName
  pub h : GraphName
  pub first : decode b ≡ Some g
  pub second : decode c ≡ Some h
  pub path : full_path g h ≡ None

-- two records, with a path from the first to the second whose bytes stand at the front of p
pub record HasPath (b c p : Bytes) : Type 0 where
  pub g : GraphName
  pub h : GraphName
  pub first : decode b ≡ Some g
  pub second : decode c ≡ Some h
  pub start : Bytes
  pub steps : List Step
  pub named : g.name ≡ Some start
  pub path : full_path g h ≡ Some steps
  pub rest : Bytes
  pub bytes : p ≡ path_bytes start steps ++ rest
  pub size : length p ≡ room_for_path

-- what was found, and the path's bytes
abbrev pub Finds : Bytes → Bytes → Given Direction → Bytes → Type 0
Finds b c (Err e) p = check_of_both b c ≡ Err e
Finds b c (Ok Forward) p = HasPath b c p
Finds b c (Ok Backward) p = HasPath c b p × NoPath b c
Finds b c (Ok Neither) p = NoPath c b × NoPath b c

-- what a writer answers, and what its output then holds
abbrev pub Answers : Given Bytes → Bytes → Given ℕ → Bytes → Type 0
Answers a out r o = (r ≡ size_written a) × (o ≡ output_with a out)

-- a text, after the test of the descs and of the room
abbrev pub text_written : Bytes → Bytes → Bytes → ℕ → Given Bytes
text_written t from to room = within room (with_descs from to (Ok t))

-- the text of the path whose bytes are p
abbrev pub path_text : Bytes → Bytes → Bytes → Bytes
path_text p from to = describe_path (start_at p) (after_last_empty (path_steps p)) from to
