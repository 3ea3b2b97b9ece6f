-- The pairs of a record as a row of steps, and two records' rows as one table.
use mathlib.Core.Path.{◌≡◌, sym, ap, ◌∙◌}
use mathlib.Core.List.{List}
use Prim.Native.Nat.{ℕ, ◌+◌, ◌*◌, ◌/◌, ◌%◌, ◌≤◌, ◌<◌}
use native.Mathlib.Omega.{arith}
use lib.ListN.{length, get_or}
use Rattle.model.specs.declared.Kind.{Kind}
use Rattle.model.specs.declared.Kind.TheVariants.{Subgraph, Translation}
use Rattle.model.specs.Bytes.{Bytes}
use Rattle.model.specs.Record.{Pair, compare_pairs}
use Rattle.model.specs.Layout.{record_length, pair_length, name_count, pair_count, table_at, shown}
use Rattle.model.specs.Questions.{pairs_of}
use Rattle.model.specs.Path.{kind_number}
use Rattle.model.specs.Statements.{Ascending}
use Rattle.record.specs.Holds.{HoldsRecord}
use Rattle.record.proofs.Laws.{decoded}
use Rattle.record.proofs.Access.{record_pair, record_pair_count, pair_within}
use Rattle.search.specs.Steps.{max_nodes, max_moves}
use Rattle.search.specs.Table.{Merged, Mergeable}
use Rattle.search.specs.Names.{InOrder, no_pair, Row, StepTable}
use Rattle.search.specs.Related.{of_kind}
use Rattle.search.proofs.StepTables.{row_table, tables_mergeable, merged_table}
use Rattle.union.specs.Names.{NumberedTo}
use Rattle.union.specs.Steps.{from_at, to_at, Rowable, IsRow, BothNumbered, pairs_of_kind, Gatherable, Gathered, by_kind}

-- ------------------------------------------------------------------ one record

kind_small : (k : Kind) → kind_number k < 2
kind_small Subgraph = omega arith
kind_small Translation = omega arith

module _ (b : Bytes) (r : HoldsRecord b) (numbers : List ℕ) (size : ℕ) (name : ℕ → Bytes) (few : size ≤ max_nodes) (room : name_count b ≤ length numbers)
    (n : NumberedTo (name_count b) b numbers size name) (k : Kind) where
  pub rowable : Rowable b k numbers
  rowable = record {
    long = r.long;
    within = within k;
    places = pair_within b (shown b) r.decoded k;
    room = room;
    small = λ p l. omega (arith, (n p l).0);
  }
    where
      within : (k : Kind) → table_at k b + pair_length * pair_count k b ≤ record_length
      within Subgraph = omega (arith, r.count, r.subgraphs, r.translations)
      within Translation = omega (arith, r.count, r.subgraphs, r.translations)

  ascending : (k : Kind) → Ascending compare_pairs (pairs_of k (shown b))
  ascending Subgraph = (decoded b (shown b) r.decoded).0.subgraphs
  ascending Translation = (decoded b (shown b) r.decoded).0.translations

  -- its pairs of a kind, in the order of their names
  pub row_steps : InOrder name size → (row : List ℕ) → IsRow b k numbers row → StepTable row size name (of_kind k (pairs_of k (shown b)))
  row_steps order row is = row_table k size name (pairs_of k (shown b)) row few order made (ascending k)
    where
      made : Row k size name (pairs_of k (shown b)) row
      made = record {
        long = is.long ∙ sym (record_pair_count b (shown b) r.decoded k);
        kinds = λ p l.
            let i : p < pair_count k b = omega (arith, is.long) in
            let w = pair_within b (shown b) r.decoded k p i in
            omega (arith, is.steps p i, (n _ w.0).0, (n _ w.1).0, kind_small k);
        starts = λ p l.
            let i : p < pair_count k b = omega (arith, is.long) in
            let w = pair_within b (shown b) r.decoded k p i in
            let f = n _ w.0 in
            let e : get_or row p 0 / max_moves ≡ get_or numbers (from_at b k p) 0 = omega (arith, is.steps p i, f.0, (n _ w.1).0, kind_small k) in
            rw e (f.0, f.1 ∙ sym (ap (λ (q : Pair). q.from) (record_pair b (shown b) r.decoded k p no_pair i)));
        ends = λ p l.
            let i : p < pair_count k b = omega (arith, is.long) in
            let w = pair_within b (shown b) r.decoded k p i in
            let f = n _ w.1 in
            let e : get_or row p 0 % max_nodes ≡ get_or numbers (to_at b k p) 0 = omega (arith, is.steps p i, f.0, (n _ w.0).0, kind_small k) in
            rw e (f.0, f.1 ∙ sym (ap (λ (q : Pair). q.to) (record_pair b (shown b) r.decoded k p no_pair i)));
      }

-- ------------------------------------------------------------------ the pairs of one kind of both

module _ (b : Bytes) (first : List ℕ) (c : Bytes) (second : List ℕ) (k : Kind) (rows out : List ℕ) (ready : Gatherable b first c second (pairs_of_kind k b c) rows out) where
  pub first_rowable : Rowable b k first
  first_rowable = let n = ready.numbered in rowable b ready.held.0 first ready.size ready.name n.few n.first_room n.of_first k

  pub second_rowable : Rowable c k second
  second_rowable = let n = ready.numbered in rowable c ready.held.1 second ready.size ready.name n.few n.second_room n.of_second k

  module _ (row row' : List ℕ) (one : IsRow b k first row) (two : IsRow c k second row') where
    first_table : (size : ℕ) (name : ℕ → Bytes) → BothNumbered b first c second size name → StepTable row size name (of_kind k (pairs_of k (shown b)))
    first_table size name n = row_steps b ready.held.0 first size name n.few n.first_room n.of_first k n.order row one

    second_table : (size : ℕ) (name : ℕ → Bytes) → BothNumbered b first c second size name → StepTable row' size name (of_kind k (pairs_of k (shown c)))
    second_table size name n = row_steps c ready.held.1 second size name n.few n.second_room n.of_second k n.order row' two

    pub rows_mergeable : Mergeable row row' out
    rows_mergeable =
        tables_mergeable row row' ready.size ready.name _ _ (first_table ready.size ready.name ready.numbered) (second_table ready.size ready.name ready.numbered)
        out (omega (arith, one.long, two.long, ready.out_room))

    pub rows_gathered : (out' : List ℕ) (r : ℕ) → length out' ≡ length out → Merged row row' out' r → Gathered b first c second (by_kind k) (pairs_of_kind k b c) out' r
    rows_gathered out' r long m = record {
      count = omega (arith, m.count, one.long, two.long);
      fits = omega (arith, m.count, one.long, two.long, ready.out_room);
      steps = λ size name n.
          merged_table row row' size name (of_kind k (pairs_of k (shown b))) (of_kind k (pairs_of k (shown c))) (first_table size name n) (second_table size name n)
          out' (omega (arith, one.long, two.long, ready.out_room)) r m;
    }
