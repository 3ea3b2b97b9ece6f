-- What stands where in a record's bytes: counts, names, the own name and pairs, and that each lies within the buffer.
use mathlib.Core.Path.{◌≡◌, refl, sym, ap, ◌∙◌}
use mathlib.Core.Bool.{true}
use mathlib.Core.List.{[]}
use Rattle.std.specs.Prelude.{Some}
use Prim.Native.Nat.{ℕ, zero, suc, ◌+◌, ◌*◌, ◌≤◌, ◌<◌}
use native.Mathlib.Omega.{arith}
use native.Mathlib.Nat.{add-zero}
use lib.ListN.{length, drop, get_or}
use Rattle.model.specs.declared.Kind.{Kind}
use Rattle.model.specs.declared.Kind.TheVariants.{Subgraph, Translation}
use Rattle.model.specs.Bytes.{Bytes}
use Rattle.model.specs.Numbers.{number}
use Rattle.model.specs.Record.{Pair, GraphName, names, max_name_bytes}
use Rattle.model.specs.Layout.{body_length, body_start, counts_length, entry_length, pair_length, name_count, own_number, record_length, name_at, pairs_from, own_at, shown, decode, bodies_at, pair_count, table_at}
use Rattle.text.proofs.Places.{get_or_member}
use Rattle.record.specs.Test.{Under, pairs_at, pairs_ok, entries_of, names_of}
use Rattle.record.proofs.Words.{length_rows_at, get_or_rows_at}
use Rattle.record.proofs.Entries.{entry_within}
use Rattle.record.proofs.Places.{under_pair}
use Rattle.record.proofs.TestLaws.{pairs_ok_true}
use Rattle.model.specs.Questions.{pairs_of}
use Rattle.record.proofs.Coded.{names_meaning}
use Rattle.record.proofs.Write.{read}
use Rattle.record.proofs.ReadWrite.{held_fits, length_names}
use Rattle.record.proofs.Shown.{name_at_names, shown_meaning}
use Rattle.record.proofs.Laws.{decode_held, decode_shown}

-- the pair whose places stand at byte `at`
abbrev pub pair_at : Bytes → ℕ → Pair
pair_at b at = record { from = name_at b (number b at); to = name_at b (number b (at + 2)) }

length_pairs_from : (b : Bytes) (at k : ℕ) → length (pairs_from b at k) ≡ k
unfolding pairs_from
length_pairs_from b at zero = refl
length_pairs_from b at (suc k) = ap suc (length_pairs_from b (at + pair_length) k)

get_or_pairs_from : (b : Bytes) (at k i : ℕ) (d : Pair) → i < k → get_or (pairs_from b at k) i d ≡ pair_at b (at + pair_length * i)
unfolding pairs_from
get_or_pairs_from b at zero i d h = absurd (omega arith)
get_or_pairs_from b at (suc k) zero d h = rw add-zero
get_or_pairs_from b at (suc k) (suc i) d h =
    let e : at + pair_length * suc i ≡ at + pair_length + pair_length * i = omega arith in
    rw e (get_or_pairs_from b (at + pair_length) k i d (omega arith))

module _ (b : Bytes) (g : GraphName) (e : decode b ≡ Some g) where
  -- ------------------------------------------------------------------ names

  pub record_names : names g ≡ names_of b
  record_names =
      let h = decode_held b g e in
      ap names (sym (decode_shown b g e) ∙ shown_meaning b h) ∙ names_meaning (read b) (held_fits b h)

  pub record_count : length (names g) ≡ name_count b
  record_count = ap length record_names ∙ length_names b (decode_held b g e)

  pub record_name : (i : ℕ) → i < name_count b → get_or (names g) i [] ≡ name_at b i
  record_name i k = rw record_names (sym (name_at_names b (decode_held b g e) i k))

  pub record_own : g.name ≡ own_at b (own_number b)
  unfolding shown
  record_own = ap (λ (h : GraphName). h.name) (sym (decode_shown b g e))

  -- a name's bytes lie within the buffer, and are few
  pub name_within : (i : ℕ) → i < name_count b
      → (bodies_at b + body_start b i + body_length b i ≤ record_length) × (body_length b i ≤ max_name_bytes)
  name_within i k =
      let h = decode_held b g e in
      let l = length_rows_at entry_length (name_count b) (drop counts_length b) in
      let w = rw (get_or_rows_at entry_length (name_count b) counts_length b i k) at (entry_within (entries_of b) 0 i h.row (omega arith)) in
      (omega arith, w.2)

  -- ------------------------------------------------------------------ pairs

  pub record_pairs : (k : Kind) → pairs_of k g ≡ pairs_from b (table_at k b) (pair_count k b)
  unfolding shown
  record_pairs Subgraph = ap (λ (h : GraphName). h.subgraph) (sym (decode_shown b g e))
  record_pairs Translation = ap (λ (h : GraphName). h.translation) (sym (decode_shown b g e))

  pub record_pair_count : (k : Kind) → length (pairs_of k g) ≡ pair_count k b
  record_pair_count k = rw (record_pairs k) (length_pairs_from b (table_at k b) (pair_count k b))

  pub record_pair : (k : Kind) (i : ℕ) (d : Pair) → i < pair_count k b → get_or (pairs_of k g) i d ≡ pair_at b (table_at k b + pair_length * i)
  record_pair k i d h = rw (record_pairs k) (get_or_pairs_from b (table_at k b) (pair_count k b) i d h)

  -- the pairs are of places of names
  pub pairs_placed : (k : Kind) → Under (name_count b) (pairs_at (pair_count k b) (drop (table_at k b) b))
  pairs_placed k = ((pairs_ok_true (name_count b) (pairs_at (pair_count k b) (drop (table_at k b) b))).0 (kind_ok k)).0
    where
      kind_ok : (k : Kind) → pairs_ok (name_count b) (pairs_at (pair_count k b) (drop (table_at k b) b)) ≡ true
      kind_ok Subgraph = (decode_held b g e).subgraph
      kind_ok Translation = (decode_held b g e).translation

  pub pair_within : (k : Kind) (i : ℕ) → i < pair_count k b
      → (number b (table_at k b + pair_length * i) < name_count b) × (number b (table_at k b + pair_length * i + 2) < name_count b)
  pair_within k i h =
      let ps = pairs_at (pair_count k b) (drop (table_at k b) b) in
      let l = length_rows_at pair_length (pair_count k b) (drop (table_at k b) b) in
      let m = get_or_member (0, 0) ps i (omega arith) in
      rw (get_or_rows_at pair_length (pair_count k b) (table_at k b) b i h) at (under_pair (name_count b) ps (get_or ps i (0, 0)) (pairs_placed k) m)
