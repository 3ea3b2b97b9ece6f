-- A block whose bytes end at a place, and behind them all is zero: a part of it moved, and a text in the place of another.
use Rattle.std.specs.Prelude.{◌++◌, ℕ, ◌+◌, ◌-◌, length, take, drop}
use Rattle.model.specs.Bytes.{Bytes, pad_to}

-- b, whose bytes behind `end` are zero, with those from `from` on standing at `to`, and zeros behind them
unfoldable pub slid : Bytes → ℕ → ℕ → ℕ → Bytes
slid b end from to = pad_to (length b) (take to b ++ take (end - from) (drop from b))

-- b, whose bytes behind `end` are zero, with t in the place of its `old` bytes at `at`; what follows them moves along, and zeros fill the rest
unfoldable pub spliced : Bytes → ℕ → ℕ → ℕ → Bytes → Bytes
spliced b end at old t = pad_to (length b) (take at b ++ (t ++ take (end - (at + old)) (drop (at + old) b)))
