-- The names of a path written in two rows: the entries, and behind them the bodies. One name more goes behind each row.
use mathlib.Core.Path.{◌≡◌, refl, sym, ap, ◌∙◌}
use mathlib.Core.List.{List, [], ◌∷◌, ◌++◌, append_assoc}
use Prim.Native.Nat.{ℕ, suc, ◌+◌, ◌-◌, ◌*◌, ◌≤◌, ◌<◌}
use native.Mathlib.Nat.{zero-add}
use native.Mathlib.Numerals.{add-one}
use native.Mathlib.Decide.{ℕ_discrete}
use native.Mathlib.Omega.{arith}
use lib.ListN.{length, set, drop, length-append, length-map}
use lib.Seq.{set_comm, sets, sets-eq}
use Rattle.std.specs.Prelude.{Option, Some, None, Ok, Err}
use Rattle.model.specs.declared.Kind.{Kind}
use Rattle.model.specs.declared.fault.Fault.TheVariants.{OutputShort}
use borrow.Author.Tests.{le-leb, lt-leb}
use Rattle.model.specs.Bytes.{Bytes, put}
use Rattle.model.specs.Numbers.{le16}
use Rattle.model.specs.Path.{Step, path_bodies, path_bytes}
use Rattle.model.specs.Outcome.{sized, output_after}
use Rattle.text.proofs.Put.{length_put, put_append}
use Rattle.search.specs.Steps.{max_nodes}
use Rattle.search.specs.Queue.{node_at, prev_at, move_at}
use Rattle.search.specs.Promise.{path_to}
use Rattle.search.specs.Names.{kind_of, step_of}
use Rattle.search.proofs.Reading.{length_step, length_first, length_low, back_less}
use Rattle.path_bytes.specs.Layout.{first_entry, entry_length, entry_at}
use Rattle.path_bytes.specs.Written.{step_number, entries_with, path_back, start_name, bodies_to, Writable, NamesWritten, PathWritten}
use Rattle.path_bytes.proofs.PathBytes.{entries_snoc, length_entries, entries_path, length_path, node_last, no_steps, path_last, bodies_last, bodies_step}

-- ------------------------------------------------------------------ two texts at places apart

put_sets : (out : Bytes) (i : ℕ) (t : Bytes) → i + length t ≤ length out → put out i t ≡ sets out i t
unfolding put
put_sets out i t room = sym (sets-eq t out i room ∙ simp append_assoc)

set_before : (t out : Bytes) (i k x : ℕ) → i < k → sets (set out i x) k t ≡ set (sets out k t) i x
set_before [] out i k x l = refl
set_before (y ∷ t) out i k x l = rw (set_comm out i k x y (λ e. omega arith)) (set_before t (set out k y) i (suc k) x (omega arith))

sets_swap : (s t out : Bytes) (i k : ℕ) → i + length s ≤ k → sets (sets out k t) i s ≡ sets (sets out i s) k t
sets_swap [] t out i k apart = refl
sets_swap (x ∷ s) t out i k apart =
    ap (λ (o : Bytes). sets o (suc i) s) (sym (set_before t out i k x (omega arith)))
    ∙ sets_swap s t (set out i x) (suc i) k (omega arith)

put_swap : (out : Bytes) (i k : ℕ) (s t : Bytes) → i + length s ≤ k → k + length t ≤ length out → put (put out k t) i s ≡ put (put out i s) k t
put_swap out i k s t apart room =
    let l : i + length s ≤ length (put out k t) = rw (length_put out k t room) (omega arith) in
    let r : k + length t ≤ length (put out i s) = rw (length_put out i s (omega arith)) room in
    put_sets (put out k t) i s l ∙ ap (λ (o : Bytes). sets o i s) (put_sets out k t room) ∙ sets_swap s t out i k apart
    ∙ sym (put_sets (put out i s) k t r ∙ ap (λ (o : Bytes). sets o k t) (put_sets out i s (omega arith)))

-- ------------------------------------------------------------------ one name more

-- behind the entries es, and behind the bodies bs from byte `at` on
rows_more : (out : Bytes) (at : ℕ) (es bs e b : Bytes) → first_entry + (length es + length e) ≤ at → at + (length bs + length b) ≤ length out
    → put (put (put (put out first_entry es) at bs) (first_entry + length es) e) (at + length bs) b ≡ put (put out first_entry (es ++ e)) at (bs ++ b)
rows_more out at es bs e b l m =
    let f : length (put out first_entry es) ≡ length out = length_put out first_entry es (omega arith) in
    let g : length (put out first_entry (es ++ e)) ≡ length out = length_put out first_entry (es ++ e) (rw length-append (omega arith)) in
    rw (put_swap (put out first_entry es) (first_entry + length es) at e bs (omega arith) (omega arith), put_append out first_entry es e (omega arith))
    (put_append (put out first_entry (es ++ e)) at bs b (omega arith))

module _ (name : ℕ → Bytes) (q : List ℕ) (n place step : ℕ) (out : Bytes) (at : ℕ) (w : Writable name n q place step out at) where
  pub few_steps : step < max_nodes
  few_steps = omega (arith, w.steps, w.from.small, length_low q place w.from.back place (omega arith))

  first_place : step ≡ 0 → place ≡ 0
  first_place z = go (ℕ_discrete place 0)
    where
      go : Dec (place ≡ 0) → place ≡ 0
      go (yes e) = e
      go (no d) = absurd (omega (arith, w.steps, length_step q place w.from.back place (omega arith) (omega arith)))

  further_place : (step ≡ 0 → ⊥) → 0 < place
  further_place z = go (ℕ_discrete place 0)
    where
      go : Dec (place ≡ 0) → 0 < place
      go (yes e) = absurd (z (w.steps ∙ length_first q place w.from.back place e))
      go (no d) = omega arith

  module _ (last : Bytes) (is : last ≡ name (node_at q place)) (kind : Option Kind) where
    module _ (z : step ≡ 0) where
      alone : path_back name q place ≡ []
      alone = ap (path_back name q) (first_place z) ∙ no_steps name q

      is_start : start_name name q ≡ last
      is_start = sym (is ∙ ap (λ (j : ℕ). name (node_at q j)) (first_place z))

      pub first_fits : at + length last ≤ length out
      unfolding path_bodies
      first_fits = rw (alone, is_start) at w.bodies

      -- the first name
      pub names_first : (r : ℕ) (o₁ o₂ : Bytes) → o₁ ≡ put out (entry_at 0) (le16 (length last) ++ le16 (step_number kind)) → (r ≡ at + length last) × (o₂ ≡ put o₁ at last)
          → NamesWritten name q place out at kind r o₂
      unfolding entries_with path_bodies
      names_first r o₁ o₂ e f = record { end = f.0 ∙ rw (alone, is_start); is = f.1 ∙ rw (e, alone, is_start) }

    module _ (z : step ≡ 0 → ⊥) where
      falls : prev_at q place < place
      falls = w.from.back.falls place (further_place z) (omega arith)

      fewer : length (path_to q place) ≡ length (path_to q (prev_at q place)) + 1
      fewer = length_step q place w.from.back place (further_place z) (omega arith)

      shorter : bodies_to name q place ≡ bodies_to name q (prev_at q place) + length last
      shorter = bodies_step name q place w.from.back place (further_place z) (omega arith) ∙ rw is

      pub writable_prev : Writable name n q (prev_at q place) (step - 1) out at
      writable_prev = record {
        from = record {
          back = back_less q place (prev_at q place) w.from.back (omega (arith, falls));
          nodes = λ j l. w.from.nodes j (omega (arith, falls));
          small = omega (arith, w.from.small, falls);
        };
        steps = omega (arith, w.steps, fewer);
        entries = omega (arith, w.entries);
        bodies = omega (arith, w.bodies, shorter);
      }

      pub further_fits : (end : ℕ) → end ≡ at + bodies_to name q (prev_at q place) → end + length last ≤ length out
      further_fits end e = omega (arith, w.bodies, shorter)

      -- a further one
      pub names_more : (end r : ℕ) (o₁ o₂ o₃ : Bytes) → NamesWritten name q (prev_at q place) out at (Some (kind_of (move_at q place))) end o₁
          → o₂ ≡ put o₁ (entry_at step) (le16 (length last) ++ le16 (step_number kind)) → (r ≡ end + length last) × (o₃ ≡ put o₂ end last)
          → NamesWritten name q place out at kind r o₃
      names_more end r o₁ o₂ o₃ d e f =
          let a = start_name name q in
          let ss = path_back name q (prev_at q place) in
          let s = step_of name (move_at q place) in
          let es = entries_with (Some s.kind) a ss in
          let long : length es ≡ entry_length * step =
          omega (arith, length_entries (Some s.kind) a ss, length-map (path_to q (prev_at q place)) (step_of name), fewer, w.steps) in
          let i : entry_at step ≡ first_entry + length es = omega arith in
          let z = further_place z in
          record {
            end = omega (arith, shorter, d.end, f.0);
            is =
                f.1 ∙ rw (e, d.end, d.is, i)
                (rows_more out at es (path_bodies a ss) (le16 (length last) ++ le16 (step_number kind)) last (omega (arith, w.entries)) (omega (arith, w.bodies, shorter))
                ∙ rw (
                  is,
                  bodies_last name q place w.from.back place z (omega arith),
                  path_last name q place w.from.back place z (omega arith),
                  entries_snoc kind a ss s,
                  node_last q place,
                ));
          }

-- ------------------------------------------------------------------ the whole path

put_front : (out t : Bytes) → put out 0 t ≡ t ++ drop (length t) out
unfolding put
put_front out t = rw zero-add

-- the count, then the entries, then the bodies
whole_path : (a : Bytes) (ss : List Step) (out : Bytes) → length (path_bytes a ss) ≤ length out
    → put (put (put out 0 (le16 (length ss + 1))) first_entry (entries_with None a ss)) (entry_at (length ss + 1)) (path_bodies a ss) ≡ put out 0 (path_bytes a ss)
unfolding path_bytes
whole_path a ss out l =
    let m = length_entries None a ss in
    let n : first_entry + length (entries_with None a ss) + length (path_bodies a ss) ≤ length out = omega (arith, length_path a ss) in
    let i : entry_at (length ss + 1) ≡ 0 + length (le16 (length ss + 1) ++ entries_with None a ss) = omega arith in
    rw (put_append out 0 (le16 (length ss + 1)) (entries_with None a ss) (omega arith), i)
    (put_append out 0 (le16 (length ss + 1) ++ entries_with None a ss) (path_bodies a ss) (omega arith) ∙ rw (add-one, entries_path a ss))

module _ (name : ℕ → Bytes) (q : List ℕ) (place step at bodies : ℕ) (steps : step ≡ length (path_to q place)) (behind : at ≡ entry_at (step + 1))
    (size : bodies ≡ bodies_to name q place) (out : Bytes) where
  abbrev bytes : Bytes
  bytes = path_bytes (start_name name q) (path_back name q place)

  steps_are : length (path_back name q place) ≡ step
  steps_are = length-map (path_to q place) (step_of name) ∙ sym steps

  whole_size : length bytes ≡ at + bodies
  whole_size = omega (arith, length_path (start_name name q) (path_back name q place), steps_are)

  pub path_short : length out < at + bodies → PathWritten name q place out (Err OutputShort) out
  path_short l = let e = lt-leb (length bytes) (length out) (omega (arith, whole_size)) in (rw e, rw e)

  pub path_written : at + bodies ≤ length out → (o₁ : Bytes) → o₁ ≡ put out 0 (le16 (step + 1)) → (r : ℕ) (o₂ : Bytes) → NamesWritten name q place o₁ at None r o₂
      → PathWritten name q place out (Ok tt) o₂
  path_written room o₁ count r o₂ e =
      let f = le-leb (length bytes) (length out) (omega (arith, whole_size)) in
      let g = whole_path (start_name name q) (path_back name q place) out (omega (arith, whole_size)) in
      let h : put out 0 bytes ≡ output_after (sized (length out) (Ok (Some bytes))) out = rw f (put_front out bytes) in
      (rw f, e.is ∙ rw (count, behind) (rw steps_are at g) ∙ h)
