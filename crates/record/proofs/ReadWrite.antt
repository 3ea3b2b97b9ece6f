-- A buffer of bytes passes the test exactly if it is what is written for a form that fits, and reading gives that form back.
use mathlib.Core.Path.{◌≡◌, sym, ap, ◌∙◌}
use mathlib.Core.Bool.{true}
use mathlib.Core.List.{List, ◌++◌}
use Prim.Native.Nat.{ℕ, ◌+◌, ◌-◌, ◌*◌, ◌≤◌}
use native.Mathlib.Omega.{arith}
use native.Mathlib.Nat.{zero-add, sub-zero}
use lib.ListN.{length, take, drop, replicate, length-append, length-drop, length-replicate, take-append-drop}
use lib.Seq.{drop-drop, get_or-drop, take-add, drop-append_seam}
use Rattle.model.specs.Bytes.{Bytes}
use Rattle.model.specs.Record.{bodies}
use Rattle.record.specs.Test.{pairs_ok, body_end, entries_of, subgraph_of, translation_of, names_of, Under}
use Rattle.model.specs.Layout.{entry_length, pair_length, counts_length, name_count, own_number, pair_count, record_length, table_at, bodies_at}
use Rattle.record.proofs.Words.{AllBytes, under_weaken, length_rows_at, two_again, bytes_drop, pairs_again}
use Rattle.record.proofs.Held.{Held}
use Rattle.record.proofs.Entries.{length_cut, cut_spans, body_end_spans, under_spans, entries_again, Cut, cut_holds}
use Rattle.record.proofs.TestLaws.{pairs_ok_true}
use Rattle.text.proofs.Blocks.{zeros_replicate, zeros_only}
use Rattle.record.specs.Coded.{Coded, counts_of, spans}
use Rattle.record.proofs.Coded.{Fits}
use Rattle.record.proofs.Write.{parts, size, ending, write, read, length_parts, Parts, parts_read}
use Rattle.model.specs.declared.Kind.TheVariants.{Subgraph, Translation}

-- ------------------------------------------------------------------ reading what was written

module _ (c : Coded) (f : Fits c) where
  read_parts : Parts (write c) c.own c.names c.subgraph c.translation (bodies c.names ++ ending c)
  unfolding write
  read_parts =
      parts_read c.own c.names c.subgraph c.translation (bodies c.names ++ ending c)
      (omega arith) (omega arith) (omega arith) (omega arith)
      (under_spans 0 c.names f.short (omega arith))
      (small c.subgraph f.subgraph)
      (small c.translation f.translation)
    where
      small : (ps : List (ℕ × ℕ)) → pairs_ok (length c.names) ps ≡ true → Under 65536 ps
      small ps e = under_weaken (length c.names) 65536 ps (omega arith) ((pairs_ok_true (length c.names) ps).0 e).0

  body_end_read : body_end 0 (entries_of (write c)) ≡ length (bodies c.names)
  body_end_read = rw (read_parts.entries, body_end_spans 0 c.names f.short) (zero-add (length (bodies c.names)))

  names_read : names_of (write c) ≡ c.names
  names_read = rw (read_parts.entries, read_parts.rest) (cut_spans 0 c.names (ending c))

  pub read_write : read (write c) ≡ c
  read_write i = record { names = names_read i; own = read_parts.own i; subgraph = read_parts.subgraph i; translation = read_parts.translation i }

  length_write : length (write c) ≡ record_length
  unfolding write
  length_write = simp (length_parts, length-append, length-replicate) (omega arith)

  pub write_held : Held (write c)
  write_held =
      record {
        long = length_write;
        count = rw read_parts.count f.count;
        own = rw (read_parts.count, read_parts.own) f.own;
        subgraphs = rw read_parts.subgraphs f.subgraphs;
        translations = rw read_parts.translations f.translations;
        row = rw body_end_read f.room;
        subgraph = rw (read_parts.subgraph, read_parts.count) f.subgraph;
        translation = rw (read_parts.translation, read_parts.count) f.translation;
        order = rw names_read f.order;
        used = rw (read_parts.subgraph, read_parts.translation, read_parts.own, read_parts.count) f.used;
        rest =
            rw (
              ← drop-drop (body_end 0 (entries_of (write c))) (bodies_at (write c)) (write c),
              read_parts.rest,
              body_end_read,
              drop-append_seam (bodies c.names) (ending c),
            )
            (zeros_replicate (record_length - size c));
      }

-- ------------------------------------------------------------------ writing what was read

rejoin : (a k : ℕ) (b : Bytes) → take k (drop a b) ++ drop (a + k) b ≡ drop a b
rejoin a k b = rw (← drop-drop k a b) (take-append-drop k (drop a b))

-- the counts of b, written again
counts_again : (b : Bytes) → AllBytes b → counts_length ≤ length b → counts_of (name_count b) (own_number b) (pair_count Subgraph b) (pair_count Translation b) ≡ take counts_length b
counts_again b h k =
    let r = rw (get_or-drop, get_or-drop, get_or-drop, get_or-drop) at (two_again (drop 4 b) (bytes_drop 4 b h) (rw length-drop (omega arith))) in
    rw (take-add 4 4 b, ← two_again b h (omega arith), ← r)

-- a buffer with room for its parts, whose names have the entries that it has, is made of them
parts_of : (b : Bytes) → AllBytes b → bodies_at b ≤ length b → length (names_of b) ≡ name_count b → spans 0 (names_of b) ≡ entries_of b
    → parts (own_number b) (names_of b) (subgraph_of b) (translation_of b) (drop (bodies_at b) b) ≡ b
unfolding parts
parts_of b h k n d =
    let s = table_at Subgraph b in
    let t = table_at Translation b in
    let e : bodies_at b ≡ t + pair_length * pair_count Translation b = omega arith in
    let named = rw n at (entries_again 0 (names_of b) (drop counts_length b) (bytes_drop counts_length b h) (rw length-drop (omega arith)) (rw n d)) in
    rw (
      n,
      length_rows_at pair_length (pair_count Subgraph b) (drop s b),
      length_rows_at pair_length (pair_count Translation b) (drop t b),
      named,
      pairs_again (pair_count Subgraph b) (drop s b) (bytes_drop s b h) (rw length-drop (omega arith)),
      pairs_again (pair_count Translation b) (drop t b) (bytes_drop t b h) (rw length-drop (omega arith)),
      e,
      rejoin t (pair_length * pair_count Translation b) b,
      rejoin s (pair_length * pair_count Subgraph b) b,
      rejoin counts_length (entry_length * name_count b) b,
    )
    (ap (λ (t : Bytes). t ++ drop counts_length b) (counts_again b h (omega arith)) ∙ take-append-drop counts_length b)

module _ (b : Bytes) (h : Held b) where
  names_cut : Cut (entries_of b) 0 (drop (bodies_at b) b)
  names_cut = cut_holds (entries_of b) 0 (drop (bodies_at b) b) h.row (rw length-drop (omega arith))

  pub length_names : length (names_of b) ≡ name_count b
  length_names = length_cut (entries_of b) (drop (bodies_at b) b) ∙ length_rows_at entry_length (name_count b) (drop counts_length b)

  body_end_names : body_end 0 (entries_of b) ≡ length (bodies (names_of b))
  body_end_names =
      ap (body_end 0) (sym names_cut.entries)
      ∙ body_end_spans 0 (names_of b) names_cut.short
      ∙ zero-add (length (bodies (names_of b)))

  pub held_fits : Fits (read b)
  held_fits = record {
    count = rw length_names h.count;
    own = rw length_names h.own;
    subgraphs = rw length_rows_at h.subgraphs;
    translations = rw length_rows_at h.translations;
    short = names_cut.short;
    room = rw (← body_end_names) h.row;
    subgraph = rw length_names h.subgraph;
    translation = rw length_names h.translation;
    order = h.order;
    used = rw length_names h.used;
  }

  pub write_read : AllBytes b → write (read b) ≡ b
  unfolding write
  write_read a =
      let X = drop (bodies_at b) b in
      let Z = drop (body_end 0 (entries_of b)) X in
      let cleared : Z ≡ replicate (length Z) 0 = zeros_only Z (rw drop-drop h.rest) in
      let whole : bodies (names_of b) ++ Z ≡ X = rw sub-zero at names_cut.whole in
      let l = length_names in
      let s = length_rows_at pair_length (pair_count Subgraph b) (drop (table_at Subgraph b) b) in
      let t = length_rows_at pair_length (pair_count Translation b) (drop (table_at Translation b) b) in
      let e = body_end_names in
      let left : record_length - size (read b) ≡ length Z = simp length-drop (omega arith) in
      rw (left, ← cleared, whole) (parts_of b a (omega arith) length_names names_cut.entries)
