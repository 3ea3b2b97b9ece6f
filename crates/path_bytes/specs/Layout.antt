-- Where the parts of a path's bytes stand, and what they say: the number of its names, an entry for each, and the bodies.
use Rattle.std.specs.Prelude.{ℕ, ◌+◌, ◌*◌}
use Rattle.model.specs.Bytes.{Bytes}
use Rattle.model.specs.Numbers.{number}

-- behind the number of names
abbrev pub first_entry : ℕ
first_entry = 2

-- the length of a name, and the kind of the step that leaves it
abbrev pub entry_length : ℕ
entry_length = 4

-- where the kind stands in an entry
abbrev pub kind_in_entry : ℕ
kind_in_entry = 2

-- where entry i begins; the bodies begin where the entry after the last would
abbrev pub entry_at : ℕ → ℕ
entry_at i = first_entry + entry_length * i

-- room for the bytes of every path between the names of two records
abbrev pub room_for_path : ℕ
room_for_path = 49152

-- what stands in the bytes p: the number of names, and in the entry at a byte the length of a name and the kind of its step
abbrev pub name_count : Bytes → ℕ
name_count p = number p 0

abbrev pub bodies_at : Bytes → ℕ
bodies_at p = entry_at (name_count p)

abbrev pub name_length : Bytes → ℕ → ℕ
name_length p entry = number p entry

abbrev pub step_kind : Bytes → ℕ → ℕ
step_kind p entry = number p (entry + kind_in_entry)
