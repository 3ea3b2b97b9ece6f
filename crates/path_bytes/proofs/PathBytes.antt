-- The bytes of a path, step by step: one name more at the end; and the path to a place, by the place before it.
use mathlib.Core.Path.{◌≡◌, refl, ap, ◌∙◌}
use mathlib.Core.List.{List, [], ◌∷◌, ◌++◌, append_assoc, map-append}
use Prim.Native.Nat.{ℕ, ◌+◌, ◌*◌, ◌%◌, ◌≤◌, ◌<◌}
use native.Mathlib.Omega.{arith}
use Rattle.std.specs.Prelude.{Option, Some, None}
use lib.ListN.{length, length-append}
use Rattle.std.proofs.lemmas.Nat.{column_fits}
use Rattle.model.specs.declared.Kind.{Kind}
use Rattle.model.specs.Bytes.{Bytes}
use Rattle.model.specs.Numbers.{le16}
use Rattle.model.specs.Path.{Step, path_entries, path_bodies, path_bytes}
use Rattle.search.specs.Steps.{max_nodes}
use Rattle.search.specs.Queue.{node_at, prev_at, move_at}
use Rattle.search.specs.Promise.{path_to, Back}
use Rattle.search.specs.Names.{step_of}
use Rattle.search.proofs.Walk.{path_first}
use Rattle.search.proofs.Reading.{back_step}
use Rattle.path_bytes.specs.Layout.{entry_length, entry_at}
use Rattle.path_bytes.specs.Written.{step_number, entries_with, path_back, start_name, bodies_to}

-- ------------------------------------------------------------------ entries and bodies

pub entries_snoc : (k : Option Kind) (a : Bytes) (ss : List Step) (s : Step)
    → entries_with k a (ss ++ (s ∷ [])) ≡ entries_with (Some s.kind) a ss ++ (le16 (length s.next) ++ le16 (step_number k))
unfolding entries_with
entries_snoc k a [] s = refl
entries_snoc k a (t ∷ ss) s = rw (entries_snoc k t.next ss s) (simp append_assoc)

pub length_entries : (k : Option Kind) (a : Bytes) (ss : List Step) → length (entries_with k a ss) ≡ entry_length * (length ss + 1)
unfolding entries_with
length_entries k a [] = refl
length_entries k a (s ∷ ss) = omega (arith, length_entries k s.next ss)

pub entries_path : (a : Bytes) (ss : List Step) → path_entries a ss ≡ entries_with None a ss
unfolding entries_with path_entries
entries_path a [] = refl
entries_path a (s ∷ ss) = rw (entries_path s.next ss)

bodies_snoc : (a : Bytes) (ss : List Step) (s : Step) → path_bodies a (ss ++ (s ∷ [])) ≡ path_bodies a ss ++ s.next
unfolding path_bodies
bodies_snoc a [] s = refl
bodies_snoc a (t ∷ ss) s = rw (bodies_snoc t.next ss s) (simp append_assoc)

pub length_path : (a : Bytes) (ss : List Step) → length (path_bytes a ss) ≡ entry_at (length ss + 1) + length (path_bodies a ss)
unfolding path_bytes
length_path a ss = simp length-append (omega (arith, ap length (entries_path a ss), length_entries None a ss))

-- the node that the last move leads to
pub node_last : (q : List ℕ) (j : ℕ) → move_at q j % max_nodes ≡ node_at q j
node_last q j = omega arith

-- ------------------------------------------------------------------ the path to a place

module _ (name : ℕ → Bytes) (q : List ℕ) where
  pub no_steps : path_back name q 0 ≡ []
  no_steps = rw (path_first q)

  pub bodies_first : bodies_to name q 0 ≡ length (start_name name q)
  unfolding path_bodies
  bodies_first = rw no_steps

  module _ (place : ℕ) (back : Back q place) (j : ℕ) (z : 0 < j) (l : j ≤ place) where
    pub path_last : path_back name q j ≡ path_back name q (prev_at q j) ++ (step_of name (move_at q j) ∷ [])
    path_last = rw (back_step q place back j z l) (map-append (step_of name) (path_to q (prev_at q j)) (move_at q j ∷ []))

    pub bodies_last : path_bodies (start_name name q) (path_back name q j)
        ≡ path_bodies (start_name name q) (path_back name q (prev_at q j)) ++ name (node_at q j)
    bodies_last = rw path_last (bodies_snoc (start_name name q) (path_back name q (prev_at q j)) (step_of name (move_at q j)) ∙ rw (node_last q j))

    pub bodies_step : bodies_to name q j ≡ bodies_to name q (prev_at q j) + length (name (node_at q j))
    bodies_step = rw bodies_last (simp length-append)

-- ------------------------------------------------------------------ how long the names are together

-- after so many bytes of names, each shorter than m, the path to place j is left
pub record Adding (m : ℕ) (name : ℕ → Bytes) (q : List ℕ) (place j total : ℕ) : Type 0 where
  pub low : j ≤ place
  pub bound : total + m * j ≤ m * place
  pub left : total + bodies_to name q j ≡ bodies_to name q place

-- with one name more they are few yet
pub adding_few : (m : ℕ) (name : ℕ → Bytes) (q : List ℕ) (place j total : ℕ) → Adding m name q place j total → place < max_nodes → (n : ℕ) → n < m → total + n < m * max_nodes
adding_few m name q place j total a small n l = omega (arith, a.bound, column_fits m place m max_nodes small (omega arith))

module _ (m : ℕ) (name : ℕ → Bytes) (q : List ℕ) (place : ℕ) (back : Back q place) where
  module _ (j total : ℕ) (a : Adding m name q place j total) (last : Bytes) (is : last ≡ name (node_at q j)) where
    pub adding_step : length last < m → 0 < j → Adding m name q place (prev_at q j) (total + length last)
    adding_step s z =
        let f = back.falls j z a.low in
        record {
          low = omega (arith, a.low);
          bound = omega (arith, a.bound, column_fits m (prev_at q j) m j f (omega arith));
          left = omega (arith, a.left, ap length is, bodies_step name q place back j z a.low);
        }

    -- with the first name counted, they are all of them
    pub adding_end : j ≡ 0 → (all : ℕ) → all ≡ total + length last → all ≡ bodies_to name q place
    adding_end z all all_is =
        let first : last ≡ start_name name q = is ∙ ap (λ (i : ℕ). name (node_at q i)) z in
        omega (arith, all_is, a.left, ap length first, ap (bodies_to name q) z, bodies_first name q)
