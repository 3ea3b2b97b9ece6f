-- Ascending lists by place: where an element stands or would stand, and what a search for it answers. Numbers moved up for one that comes in, and
-- places after a name came in.
use Rattle.std.specs.Prelude.{cond, List, [], ◌∷◌, ◌++◌, ℕ, suc, ◌+◌, ◌*◌, ◌/◌, ◌%◌, take, drop, leb, eqb, Result, Ok, Err}
use Rattle.std.specs.declared.cmp.Ordering.{Ordering}
use Rattle.model.specs.Bytes.{by_order}

-- how many elements, from the front, are less than x
unfoldable pub lower : {A : Type 0} → (A → A → Ordering) → A → List A → ℕ
lower cmp x [] = 0
lower cmp x (y ∷ ys) = by_order (cmp y x) (suc (lower cmp x ys)) 0 0

-- an answer one place on
abbrev pub one_on : Result ℕ ℕ → Result ℕ ℕ
one_on (Ok p) = Ok (suc p)
one_on (Err p) = Err (suc p)

-- what a search for x in an ascending list answers: the place of x, or the place where it would stand
unfoldable pub sought : {A : Type 0} → (A → A → Ordering) → A → List A → Result ℕ ℕ
sought cmp x [] = Err 0
sought cmp x (y ∷ ys) = by_order (cmp y x) (one_on (sought cmp x ys)) (Ok 0) (Err 0)

-- xs with those from place i up to place m one place further up, over what stood at m; at place i stands what stood there
unfoldable pub raised : List ℕ → ℕ → ℕ → List ℕ
raised xs m i = take (i + 1) xs ++ (drop i (take m xs) ++ drop (m + 1) xs)

-- what a place of p or more goes up by
abbrev pub above : ℕ → ℕ → ℕ
above p q = cond (leb p q) 1 0

-- the places of a pair, as one number, after a name came in at place p
unfoldable pub renumbered : ℕ → ℕ → ℕ
renumbered p x = x + 65536 * above p (x / 65536) + above p (x % 65536)

-- a place after a name came in at place p, if that made the names more
abbrev pub place_after : ℕ → ℕ → ℕ → ℕ → ℕ
place_after before now p x = cond (eqb before now) x (x + above p x)
