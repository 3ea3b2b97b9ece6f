-- What stands in the bytes of a path is the path: its first name, and its steps.
use mathlib.Core.Path.{◌≡◌, refl, sym, ap, ◌∙◌}
use mathlib.Core.List.{List, [], ◌∷◌, ◌++◌, append_assoc}
use Rattle.std.specs.Prelude.{None}
use Prim.Native.Nat.{ℕ, suc, ◌+◌, ◌-◌, ◌≤◌, ◌<◌}
use native.Mathlib.Omega.{arith}
use native.Mathlib.Nat.{add-zero}
use lib.ListN.{length, take, drop, length-append}
use lib.Seq.{take-append_seam, drop-append_seam, drop_at, drop-drop, get_or-drop}
use Rattle.model.specs.declared.Kind.{Kind}
use Rattle.model.specs.declared.Kind.TheVariants.{Subgraph, Translation}
use Rattle.model.specs.Bytes.{Bytes}
use Rattle.model.specs.Numbers.{le16, number}
use Rattle.model.specs.Path.{Step, kind_number, path_entries, path_bodies, path_bytes}
use Rattle.model.specs.Describe.{steps_from}
use Rattle.path_bytes.specs.Layout.{first_entry, entry_length, entry_at, room_for_path, name_count, bodies_at, name_length, step_kind}
use Rattle.path_bytes.specs.Reading.{kind_numbered, steps_at, PathIn, start_at, path_steps}
use Rattle.path_bytes.proofs.PathBytes.{length_entries, entries_path, length_path}

number_drop : (p : Bytes) (at i : ℕ) → number (drop at p) i ≡ number p (at + i)
number_drop p at i = let e : at + i + 1 ≡ at + (i + 1) = omega arith in rw (e, get_or-drop at p i 0, get_or-drop at p (i + 1) 0)

kind_back : (k : Kind) → (kind_numbered (kind_number k) ≡ k) × (kind_number k < 2)
kind_back Subgraph = (refl, omega arith)
kind_back Translation = (refl, omega arith)

-- ------------------------------------------------------------------ steps

-- entries and bodies of a path from a stand at these bytes
record Stands (p : Bytes) (e at : ℕ) (a : Bytes) (ss : List Step) : Type 0 where
  entry_rest : Bytes
  body_rest : Bytes
  entries : drop e p ≡ path_entries a ss ++ entry_rest
  bodies : drop at p ≡ path_bodies a ss ++ body_rest
  few : length (path_bodies a ss) < 65536

first_size : (a : Bytes) (ss : List Step) → length a ≤ length (path_bodies a ss)
unfolding path_bodies
first_size a [] = omega arith
first_size a (s ∷ ss) = omega (arith, length-append a (path_bodies s.next ss))

first_entry_lem : (a : Bytes) (ss : List Step) (r : Bytes) → length a < 65536 → name_length (path_entries a ss ++ r) 0 ≡ length a
unfolding path_entries
first_entry_lem a [] r h = omega arith
first_entry_lem a (s ∷ ss) r h = omega arith

first_body : (a : Bytes) (ss : List Step) (r : Bytes) → take (length a) (path_bodies a ss ++ r) ≡ a
unfolding path_bodies
first_body a [] r = take-append_seam a r
first_body a (s ∷ ss) r = rw (append_assoc a (path_bodies s.next ss) r) (take-append_seam a (path_bodies s.next ss ++ r))

-- the first name
module _ (p : Bytes) (e at : ℕ) (a : Bytes) (ss : List Step) (t : Stands p e at a ss) where
  size_read : name_length p e ≡ length a
  size_read =
      let d : e + 0 ≡ e = add-zero e in
      rw d at (sym (number_drop p e 0)) ∙ ap (λ (q : Bytes). number q 0) t.entries
      ∙ first_entry_lem a ss t.entry_rest (omega (arith, t.few, first_size a ss))

  name_read : take (name_length p e) (drop at p) ≡ a
  name_read = rw (size_read, t.bodies) (first_body a ss t.body_rest)

-- the kind of its step, and what stands behind it
module _ (p : Bytes) (e at : ℕ) (a : Bytes) (s : Step) (ss : List Step) (t : Stands p e at a (s ∷ ss)) where
  kind_read : step_kind p e ≡ kind_number s.kind
  unfolding path_entries
  kind_read = sym (number_drop p e 2) ∙ ap (λ (q : Bytes). number q 2) t.entries ∙ omega (arith, (kind_back s.kind).1)

  further : Stands p (e + entry_length) (at + name_length p e) s.next ss
  unfolding path_entries path_bodies
  further = record {
    entry_rest = t.entry_rest;
    body_rest = t.body_rest;
    entries = sym (drop-drop entry_length e p) ∙ ap (drop entry_length) t.entries;
    bodies =
        rw (size_read p e at a (s ∷ ss) t)
        (sym (drop-drop (length a) at p) ∙ ap (drop (length a)) (t.bodies ∙ append_assoc a (path_bodies s.next ss) t.body_rest)
        ∙ drop-append_seam a (path_bodies s.next ss ++ t.body_rest));
    few = omega (arith, t.few, length-append a (path_bodies s.next ss));
  }

steps_read : (ss : List Step) (a p : Bytes) (e at : ℕ) → Stands p e at a ss → steps_at p e at (length ss) ≡ steps_from a ss
unfolding steps_at steps_from
steps_read [] a p e at t = refl
steps_read (s ∷ ss) a p e at t =
    rw (
      name_read p e at a (s ∷ ss) t,
      kind_read p e at a s ss t,
      (kind_back s.kind).0,
      steps_read ss s.next p (e + entry_length) (at + name_length p e) (further p e at a s ss t),
    )

-- ------------------------------------------------------------------ the whole bytes

module _ (p a : Bytes) (ss : List Step) (rest : Bytes) (d : p ≡ path_bytes a ss ++ rest) (size : length p ≡ room_for_path) where
  total : entry_at (length ss + 1) + length (path_bodies a ss) ≤ room_for_path
  total = omega (arith, ap length d, length-append (path_bytes a ss) rest, length_path a ss)

  count_read : name_count p ≡ suc (length ss)
  unfolding path_bytes
  count_read = ap name_count d ∙ omega (arith, total)

  stands : Stands p first_entry (bodies_at p) a ss
  unfolding path_bytes
  stands = record {
    entry_rest = path_bodies a ss ++ rest;
    body_rest = rest;
    entries = ap (drop first_entry) d ∙ append_assoc (path_entries a ss) (path_bodies a ss) rest;
    bodies =
        ap (drop (bodies_at p)) (d ∙ append_assoc (le16 (suc (length ss)) ++ path_entries a ss) (path_bodies a ss) rest)
        ∙ drop_at (le16 (suc (length ss)) ++ path_entries a ss) (path_bodies a ss ++ rest) (bodies_at p)
        (omega (arith, count_read, ap length (entries_path a ss), length_entries None a ss));
    few = omega (arith, total);
  }

  pub path_in : PathIn p
  path_in = record { size = size; some = omega (arith, count_read); end = omega (arith, count_read, total) }

  pub start_read : start_at p ≡ a
  start_read = name_read p first_entry (bodies_at p) a ss stands

  pub path_steps_lem : path_steps p ≡ steps_from a ss
  path_steps_lem =
      let e : name_count p - 1 ≡ length ss = omega (arith, count_read) in
      ap (steps_at p first_entry (bodies_at p)) e ∙ steps_read ss a p first_entry (bodies_at p) stands
