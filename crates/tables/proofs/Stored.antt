-- What is written for the tables is the encoding of the graph name that they show, with an own name or none.
use mathlib.Core.Path.{◌≡◌, ap, ◌∙◌}
use mathlib.Core.List.{List, ◌++◌, append_assoc}
use Prim.Native.Nat.{ℕ, ◌+◌, ◌-◌, ◌*◌, ◌≤◌}
use native.Mathlib.Omega.{arith}
use lib.ListN.{length, take, replicate, length-append, length-map, length-replicate}
use lib.Seq.{length-take-le}
use Rattle.model.specs.Bytes.{Bytes, put}
use Rattle.model.specs.Record.{bodies}
use Rattle.model.specs.Layout.{record_length, counts_length, entry_length, pair_length, entry_at, entries, encode}
use Rattle.text.proofs.Put.{put_rest, put_whole}
use Rattle.record.specs.Coded.{Coded, meaning, le_pairs, counts_of}
use Rattle.record.proofs.Words.{length_le_pairs}
use Rattle.record.proofs.Written.{length_counts, length_entries}
use Rattle.record.proofs.Coded.{coded, coded_again}
use Rattle.record.proofs.Write.{parts_encode}
use Rattle.sorted.specs.Tables.{Tables, places_of, pairs_in, table_names, read_out}
use Rattle.tables.specs.Judging.{Storable}
use Rattle.sorted.proofs.Search.{length_names}

-- ------------------------------------------------------------------ one part behind the other

-- from the front on
joined : (b l k : Bytes) (w v : Bytes) (p : ℕ) → l ≡ put b 0 w → p ≡ length w → k ≡ put l p v → length w + length v ≤ length b → k ≡ put b 0 (w ++ v)
joined b l k w v p d e f h =
    f ∙ put_rest b l 0 p w v (omega arith) d (omega arith)

-- ------------------------------------------------------------------ the whole

module _ (t : Tables) (own : ℕ) (s : Storable t own) where
  abbrev c : Coded
  c = read_out t own

  abbrev n : ℕ
  n = t.sizes.names

  count_names : length (table_names t) ≡ n
  count_names = length_names t.pool n t.refs s.complete.kept.count

  length_pairs : (k : ℕ) (xs : List ℕ) → k ≤ length xs → length (pairs_in k xs) ≡ k
  length_pairs k xs h = length-map (take k xs) places_of ∙ length-take-le k xs h

  count_subgraph : length c.subgraph ≡ t.sizes.subgraph
  count_subgraph = length_pairs t.sizes.subgraph t.subs s.complete.kept.subgraph.within

  count_translation : length c.translation ≡ t.sizes.translation
  count_translation = length_pairs t.sizes.translation t.trans s.complete.kept.translation.within

  coded_table : coded (meaning c) ≡ c
  coded_table =
      let e = count_names in
      coded_again c s.complete.used s.complete.kept.order (omega (arith, s.complete.own_within)) (rw e s.complete.kept.subgraph.under) (rw e s.complete.kept.translation.under)

  abbrev head : Bytes
  head = counts_of n own t.sizes.subgraph t.sizes.translation

  abbrev named : Bytes
  named = entries 0 (table_names t)

  length_named : length named ≡ entry_length * n
  length_named = length_entries 0 (table_names t) ∙ ap (λ (k : ℕ). entry_length * k) count_names

  length_subgraph : length (le_pairs c.subgraph) ≡ pair_length * t.sizes.subgraph
  length_subgraph = length_le_pairs c.subgraph ∙ ap (λ (k : ℕ). pair_length * k) count_subgraph

  length_translation : length (le_pairs c.translation) ≡ pair_length * t.sizes.translation
  length_translation = length_le_pairs c.translation ∙ ap (λ (k : ℕ). pair_length * k) count_translation

  abbrev used : ℕ
  used = entry_at n + pair_length * t.sizes.subgraph + pair_length * t.sizes.translation + length (bodies (table_names t))

  -- the parts up to each
  abbrev up_to₂ : Bytes
  up_to₂ = head ++ named

  abbrev up_to₃ : Bytes
  up_to₃ = up_to₂ ++ le_pairs c.subgraph

  abbrev up_to₄ : Bytes
  up_to₄ = up_to₃ ++ le_pairs c.translation

  abbrev up_to₅ : Bytes
  up_to₅ = up_to₄ ++ bodies (table_names t)

  whole_encoded : up_to₅ ++ replicate (record_length - used) 0 ≡ encode (meaning c)
  whole_encoded =
      let d = count_names in
      let e = count_subgraph in
      let f = count_translation in
      simp append_assoc (rw (count_names, count_subgraph, count_translation) at (parts_encode c used coded_table (omega arith)))

  -- as the code writes one part after the other
  pub stored : (b l₁ l₂ l₃ l₄ l₅ l₆ : Bytes) (p₁ p₂ p₃ p₄ p₅ : ℕ) → length b ≡ record_length
      → l₁ ≡ put b 0 head → p₁ ≡ counts_length → l₂ ≡ put l₁ p₁ named → p₂ ≡ p₁ + entry_length * n
      → l₃ ≡ put l₂ p₂ (le_pairs c.subgraph) → p₃ ≡ p₂ + pair_length * t.sizes.subgraph
      → l₄ ≡ put l₃ p₃ (le_pairs c.translation) → p₄ ≡ p₃ + pair_length * t.sizes.translation
      → l₅ ≡ put l₄ p₄ (bodies (table_names t)) → p₅ ≡ p₄ + length (bodies (table_names t))
      → l₆ ≡ put l₅ p₅ (replicate (record_length - p₅) 0) → l₆ ≡ encode (meaning c)
  stored b l₁ l₂ l₃ l₄ l₅ l₆ p₁ p₂ p₃ p₄ p₅ long a₁ q₁ a₂ q₂ a₃ q₃ a₄ q₄ a₅ q₅ a₆ =
      let total = s.complete.kept.total in
      let h = length_counts n own t.sizes.subgraph t.sizes.translation in
      let e = length_named in
      let f = length_subgraph in
      let g = length_translation in
      let w₂ = length-append head named in
      let w₃ = length-append up_to₂ (le_pairs c.subgraph) in
      let w₄ = length-append up_to₃ (le_pairs c.translation) in
      let w₅ = length-append up_to₄ (bodies (table_names t)) in
      let z = length-replicate {A = ℕ} (record_length - p₅) 0 in
      let u : p₅ ≡ used = omega arith in
      let b₂ = joined b l₁ l₂ head named p₁ a₁ (omega arith) a₂ (omega arith) in
      let b₃ = joined b l₂ l₃ up_to₂ (le_pairs c.subgraph) p₂ b₂ (omega arith) a₃ (omega arith) in
      let b₄ = joined b l₃ l₄ up_to₃ (le_pairs c.translation) p₃ b₃ (omega arith) a₄ (omega arith) in
      let b₅ = joined b l₄ l₅ up_to₄ (bodies (table_names t)) p₄ b₄ (omega arith) a₅ (omega arith) in
      joined b l₅ l₆ up_to₅ (replicate (record_length - p₅) 0) p₅ b₅ (omega arith) a₆ (omega arith)
      ∙ put_whole b (up_to₅ ++ replicate (record_length - p₅) 0) (length-append up_to₅ (replicate (record_length - p₅) 0) ∙ omega arith)
      ∙ ap (λ (k : ℕ). up_to₅ ++ replicate (record_length - k) 0) u
      ∙ whole_encoded
