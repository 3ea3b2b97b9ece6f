-- The steps of a path, each with the name that it leaves, as they stand in the path's bytes.
use Rattle.std.specs.Prelude.{◌≡◌, List, [], ◌∷◌, ℕ, zero, suc, ◌+◌, ◌-◌, ◌*◌, ◌≤◌, ◌<◌, length, take, drop}
use Rattle.model.specs.declared.Kind.{Kind}
use Rattle.model.specs.declared.Kind.TheVariants.{Subgraph, Translation}
use Rattle.model.specs.Bytes.{Bytes}
use Rattle.model.specs.Describe.{StepFrom}
use Rattle.path_bytes.specs.Layout.{first_entry, entry_length, room_for_path, name_count, bodies_at, name_length, step_kind}

-- the kind that has this number
abbrev pub kind_numbered : ℕ → Kind
kind_numbered zero = Subgraph
kind_numbered (suc n) = Translation

-- the name whose entry stands at byte `entry` and whose body at byte `body`, and the kind of the step that leaves it
abbrev pub step_at : Bytes → ℕ → ℕ → StepFrom
step_at p entry body = record { name = take (name_length p entry) (drop body p); kind = kind_numbered (step_kind p entry) }

-- so many steps, one behind the other
unfoldable pub steps_at : Bytes → ℕ → ℕ → ℕ → List StepFrom
steps_at p entry body zero = []
steps_at p entry body (suc n) = step_at p entry body ∷ steps_at p (entry + entry_length) (body + name_length p entry) n

-- so many entries stand in p from byte `entry` on
pub record EntriesIn (p : Bytes) (entry count : ℕ) : Type 0 where
  pub size : length p ≡ room_for_path
  pub end : entry + entry_length * count ≤ room_for_path

-- and the bodies' places are no large numbers
pub record StepsIn (p : Bytes) (entry body count : ℕ) : Type 0 where
  pub entries : EntriesIn p entry count
  pub near : body + 65536 * count ≤ 4294967296

-- the bytes of a path: at least one name, and all entries
pub record PathIn (p : Bytes) : Type 0 where
  pub size : length p ≡ room_for_path
  pub some : 0 < name_count p
  pub end : bodies_at p ≤ room_for_path

-- its first name, and its steps
abbrev pub start_at : Bytes → Bytes
start_at p = take (name_length p first_entry) (drop (bodies_at p) p)

abbrev pub path_steps : Bytes → List StepFrom
path_steps p = steps_at p first_entry (bodies_at p) (name_count p - 1)
