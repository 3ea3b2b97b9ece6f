-- The place of a tag in the table of tags seen.
use Rattle.std.specs.Prelude.{cond, ℕ, ◌+◌, ◌-◌, ◌*◌, ltb, get_or}
use Rattle.model.specs.Bytes.{Bytes}

-- A to Z, then a to z
abbrev pub letter_place : ℕ → ℕ
letter_place x = cond (ltb x 97) (x - 65) (x - 97 + 26)

abbrev pub tag_place : ℕ → ℕ → ℕ
tag_place x y = letter_place x * 52 + letter_place y

-- of the tag of a field
abbrev pub field_place : Bytes → ℕ
field_place f = tag_place (get_or f 0 0) (get_or f 1 0)
