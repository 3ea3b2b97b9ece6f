-- What is read of a record at known places, by the graph name that it means.
use mathlib.Core.Path.{◌≡◌, refl, sym, ap, ◌∙◌}
use mathlib.Core.Bool.{true, false≢true}
use Rattle.std.specs.Prelude.{Option, Some, None, slice_get}
use Prim.Native.Nat.{ℕ, suc, ◌+◌, ◌*◌, ◌≤◌, ◌<◌}
use native.Mathlib.Omega.{arith}
use lib.ListN.{length}
use Rattle.model.specs.declared.Kind.{Kind}
use Rattle.model.specs.declared.Kind.TheVariants.{Subgraph, Translation}
use Rattle.model.specs.declared.holdings.Part.{Part}
use Rattle.model.specs.Bytes.{Bytes}
use Rattle.model.specs.Record.{GraphName, names, max_names, max_pairs}
use Rattle.model.specs.Layout.{decode, pair_length, entry_length, entry_at, name_count, own_number, pair_count, table_at, from_place, to_place, shown}
use Rattle.model.specs.Opening.{is_some}
use Rattle.model.specs.Questions.{mapped, part_of, pair_parts, pairs_of}
use Rattle.record.specs.Reader.{place_numbered, counted_pairs, IsPart}
use Rattle.record.specs.declared.layout.Head.{Head}
use Rattle.record.specs.Holds.{HoldsRecord, IsReader, IsOwnPlace}
use Rattle.record.proofs.Own.{own_shown, number_placed}
use Rattle.record.proofs.Opening.{IsRecord, is_record_lem}
use Rattle.record.proofs.Access.{record_count, record_pair_count, record_name, pair_within}
use Rattle.record.proofs.Parts.{entry_part, name_in_lem, name_out, own_in_lem, pair_in, pair_out}

-- ------------------------------------------------------------------ the test

holds : (b : Bytes) → IsRecord b → HoldsRecord b
holds b r = let s = r.held in record { decoded = r.decoded; long = s.long; count = s.count; own = s.own; subgraphs = s.subgraphs; translations = s.translations }

-- a buffer that decodes is the record that it shows
pub record_known : (b : Bytes) → is_some (decode b) ≡ true → HoldsRecord b
record_known b v = go (decode b) refl v
  where
    go : (o : Option GraphName) → decode b ≡ o → is_some o ≡ true → HoldsRecord b
    go None e t = absurd (false≢true t)
    go (Some g) e t = holds b (is_record_lem b g e).1

-- ------------------------------------------------------------------ what stands where

part_same : (b : Bytes) (i : ℕ) (p : Part) → IsPart b i p → p ≡ entry_part b i
part_same b i p q = rw (← q.0, ← q.1)

module _ (b : Bytes) (h : Head) (reader : IsReader b h) where
  pub names_counted : h.names ≡ length (names (shown b))
  names_counted = reader.head.names.0 ∙ sym (record_count b (shown b) reader.holds.decoded)

  pub pairs_head : (k : Kind) → counted_pairs h k ≡ pair_count k b
  pairs_head Subgraph = reader.head.subgraph.0
  pairs_head Translation = reader.head.translation.0

  pub pairs_counted : (k : Kind) → counted_pairs h k ≡ length (pairs_of k (shown b))
  pairs_counted k = pairs_head k ∙ sym (record_pair_count b (shown b) reader.holds.decoded k)

  -- the counts are within the sizes
  pub names_most : h.names ≤ max_names
  names_most = omega (arith, reader.head.names.0, reader.holds.count)

  pub pairs_most : (k : Kind) → counted_pairs h k ≤ max_pairs
  pairs_most Subgraph = omega (arith, reader.head.subgraph.0, reader.holds.subgraphs)
  pairs_most Translation = omega (arith, reader.head.translation.0, reader.holds.translations)

module _ (b : Bytes) (r : HoldsRecord b) where
  -- the own place is that of the own name
  pub own_placed : (o : Option ℕ) → o ≡ place_numbered (own_number b) → IsOwnPlace (shown b) o
  own_placed None e = own_shown b ∙ rw (← e)
  own_placed (Some p) e =
      let n = number_placed (own_number b) p (rw (← e)) in
      let l : p < name_count b = omega (arith, n, r.own) in
      (omega (arith, l, record_count b (shown b) r.decoded), own_shown b ∙ rw (← e, record_name b (shown b) r.decoded p l))

  pub own_part_absent : place_numbered (own_number b) ≡ None → None ≡ mapped (part_of (shown b)) (shown b).name
  own_part_absent e = rw (own_shown b, e)

  pub own_part_there : (i : ℕ) (p : Part) → place_numbered (own_number b) ≡ Some i → IsPart b i p → Some p ≡ mapped (part_of (shown b)) (shown b).name
  own_part_there i p e q = ap (λ (w : Part). Some w) (part_same b i p q) ∙ sym (own_in_lem b (shown b) r.decoded i (number_placed (own_number b) i e))

  -- the same by its number, which is one more than the place
  pub own_part_numbered : (i : ℕ) (p : Part) → IsPart b i p → own_number b ≡ i + 1 → Some p ≡ mapped (part_of (shown b)) (shown b).name
  own_part_numbered i p q e =
      let n : own_number b ≡ suc i = omega (arith, e) in
      own_part_there i p (rw n) q

  pub part_absent : (i : ℕ) → name_count b ≤ i → None ≡ mapped (part_of (shown b)) (slice_get (names (shown b)) i)
  part_absent i h = sym (name_out b (shown b) r.decoded i h)

  pub part_there : (i : ℕ) (p : Part) → i < name_count b → IsPart b i p → Some p ≡ mapped (part_of (shown b)) (slice_get (names (shown b)) i)
  part_there i p h q = ap (λ (w : Part). Some w) (part_same b i p q) ∙ sym (name_in_lem b (shown b) r.decoded i h)

  -- the places of a pair, and where they stand, are small
  pub pair_small : (k : Kind) (i : ℕ) → i < pair_count k b
      → (entry_at (from_place b (table_at k b + pair_length * i)) + entry_length ≤ length b) × (entry_at (to_place b (table_at k b + pair_length * i)) + entry_length ≤ length b)
  pair_small k i h =
      let w = pair_within b (shown b) r.decoded k i h in
      (omega (arith, w.0, r.count, r.long), omega (arith, w.1, r.count, r.long))

  pub pair_parts_absent : (k : Kind) (i : ℕ) → pair_count k b ≤ i → None ≡ mapped (pair_parts (shown b)) (slice_get (pairs_of k (shown b)) i)
  pair_parts_absent k i h = rw (pair_out b (shown b) r.decoded k i h)

  pub pair_parts_there : (k : Kind) (i : ℕ) (p q : Part) → i < pair_count k b
      → IsPart b (from_place b (table_at k b + pair_length * i)) p → IsPart b (to_place b (table_at k b + pair_length * i)) q
      → Some (record { from = p; to = q }) ≡ mapped (pair_parts (shown b)) (slice_get (pairs_of k (shown b)) i)
  pair_parts_there k i p q h u v = rw (part_same b _ p u, part_same b _ q v) (sym (pair_in b (shown b) r.decoded k i h))
