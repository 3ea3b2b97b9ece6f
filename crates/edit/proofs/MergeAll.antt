-- Both kinds of pairs of a graph name put into tables, if it is merged.
use mathlib.Core.Path.{◌≡◌, refl, ap, ◌∙◌}
use mathlib.Core.Logic.{inl, ⊎_elim}
use Rattle.std.specs.Prelude.{Some}
use mathlib.Core.List.{List, [], ◌∷◌, Memᴰ}
use Prim.Native.Nat.{ℕ, ◌≤◌}
use native.Mathlib.Omega.{arith}
use lib.ListN.{length}
use Rattle.model.specs.declared.Kind.TheVariants.{Subgraph, Translation}
use Rattle.model.specs.Bytes.{Bytes}
use Rattle.model.specs.Record.{Pair, GraphName, compare_pairs, insert_all, names, bodies}
use Rattle.text.proofs.Order.{bytes_order}
use Rattle.text.proofs.Ascending.{insert_all_members}
use Rattle.sorted.specs.Tables.{Tables, table_names, graph_in, Kept}
use Rattle.tables.specs.Merging.{with_pairs, all_of, MergeRoom, PairsPut}
use Rattle.edit.specs.Merging.{Merged}
use Rattle.sorted.proofs.Search.{length_names}
use Rattle.tables.proofs.Merge.{fewer, shorter, all_ascending, all_count, all_bytes}

with_subgraphs : (ps : List Pair) (g : GraphName)
    → with_pairs Subgraph ps g ≡ record { name = g.name; subgraph = insert_all compare_pairs ps g.subgraph; translation = g.translation }
unfolding insert_all
with_subgraphs [] g = refl
with_subgraphs (p ∷ ps) g = with_subgraphs ps _

with_translations : (ps : List Pair) (g : GraphName)
    → with_pairs Translation ps g ≡ record { name = g.name; subgraph = g.subgraph; translation = insert_all compare_pairs ps g.translation }
unfolding insert_all
with_translations [] g = refl
with_translations (p ∷ ps) g = with_translations ps _

module _ (n k m : ℕ) (t : Tables) (h : GraphName) (start : Kept t) (room : MergeRoom n k m t h (length h.subgraph) (length h.translation)) where
  module _ (u : Tables) (first : PairsPut Subgraph t h u) where
    -- no names come in that are of neither
    all_inside : (x : Bytes) → Memᴰ x (all_of u h) → Memᴰ x (all_of t h)
    all_inside x m =
        ⊎_elim
        (λ (n : Memᴰ x (names h)). (insert_all_members bytes_order (names h) (table_names t) x).1 (inl n))
        (first.within x)
        ((insert_all_members bytes_order (names h) (table_names u) x).0 m)

    all_fewer : length (all_of u h) ≤ length (all_of t h)
    all_fewer = fewer (all_of u h) (all_of t h) (all_ascending u h first.kept) all_inside

    all_shorter : length (bodies (all_of u h)) ≤ length (bodies (all_of t h))
    all_shorter = shorter (all_of u h) (all_of t h) (all_ascending u h first.kept) all_inside

    pub second_merge : MergeRoom n k m u h 0 (length h.translation)
    second_merge = record {
      count = omega (arith, all_fewer, room.count);
      room = omega (arith, all_shorter, room.room);
      subgraph = omega (arith, first.subgraph, room.subgraph);
      translation = omega (arith, first.translation, room.translation);
    }

    pub merged_both : (w : Tables) → PairsPut Translation u h w → Merged (Some h) t w
    merged_both w second =
        let names_long = length_names w.pool w.sizes.names w.refs second.kept.count in
        let few = fewer (table_names w) (all_of u h) second.kept.order second.within in
        let short = shorter (table_names w) (all_of u h) second.kept.order second.within in
        record {
          kept = second.kept;
          good = λ own g. second.good own (first.good own g);
          graph =
              second.graph
              ∙ ap (with_pairs Translation h.translation) (first.graph ∙ with_subgraphs h.subgraph (graph_in t))
              ∙ with_translations h.translation _;
          count = omega (arith, few, all_fewer, names_long, all_count t h start);
          bytes = omega (arith, short, all_shorter, second.kept.total, all_bytes t h start);
          subgraph = omega (arith, first.subgraph, second.subgraph);
          translation = omega (arith, first.translation, second.translation);
        }
