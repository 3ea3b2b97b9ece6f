-- The steps of a question: of one kind, or those of both kinds merged.
use mathlib.Core.Path.{◌≡◌, refl, sym}
use mathlib.Core.Logic.{inl, inr, ⊎_elim, ◌↔◌}
use mathlib.Core.List.{List}
use Prim.Native.Nat.{ℕ}
use native.Mathlib.Omega.{arith}
use lib.ListN.{length, take}
use Rattle.model.specs.declared.Kind.{Kind}
use Rattle.model.specs.declared.Kind.TheVariants.{Subgraph, Translation}
use Rattle.model.specs.Bytes.{Bytes}
use Rattle.model.specs.Record.{GraphName}
use Rattle.model.specs.Layout.{shown}
use Rattle.model.specs.Statements.{by_subgraph, by_either}
use Rattle.search.specs.Table.{Merged, Mergeable}
use Rattle.search.specs.Related.{either}
use Rattle.search.proofs.StepTables.{table_same, tables_mergeable, merged_table}
use Rattle.union.specs.declared.steps.Question.TheVariants as question
use Rattle.union.specs.Steps.{pairs_of_kind, pairs_of_both, Gatherable, Gathered, by_kind, by_question}

-- ------------------------------------------------------------------ the relations

apart : Subgraph ≡ Translation → ⊥
apart e = cc

by_subgraph_lem : (g h : GraphName) (k : Kind) (a b : Bytes) → by_kind Subgraph g h k a b ↔ by_subgraph g h k a b
by_subgraph_lem g h Subgraph a b = (⊎_elim (λ w. inl w.1) (λ w. inr w.1), ⊎_elim (λ w. inl (refl, w)) (λ w. inr (refl, w)))
by_subgraph_lem g h Translation a b = (⊎_elim (λ w. apart (sym w.0)) (λ w. apart (sym w.0)), λ w. absurd w)

by_both : (g h : GraphName) (k : Kind) (a b : Bytes) → either (by_kind Subgraph g h) (by_kind Translation g h) k a b ↔ by_either g h k a b
by_both g h Subgraph a b = (
  ⊎_elim (⊎_elim (λ w. inl w.1) (λ w. inr w.1)) (⊎_elim (λ w. absurd (apart w.0)) (λ w. absurd (apart w.0))),
  ⊎_elim (λ w. inl (inl (refl, w))) (λ w. inl (inr (refl, w))),
)
by_both g h Translation a b = (
  ⊎_elim (⊎_elim (λ w. absurd (apart (sym w.0))) (λ w. absurd (apart (sym w.0)))) (⊎_elim (λ w. inl w.1) (λ w. inr w.1)),
  ⊎_elim (λ w. inr (inl (refl, w))) (λ w. inr (inr (refl, w))),
)

-- ------------------------------------------------------------------ the steps

module _ (b : Bytes) (first : List ℕ) (c : Bytes) (second : List ℕ) where
  pub subgraph_steps : (out : List ℕ) (r : ℕ) → Gathered b first c second (by_kind Subgraph) (pairs_of_kind Subgraph b c) out r
      → Gathered b first c second (by_question question.Subgraph) (pairs_of_both b c) out r
  subgraph_steps out r w = record {
    count = omega (arith, w.count);
    fits = w.fits;
    steps = λ size name n.
        table_same (take r out) size name (by_kind Subgraph (shown b) (shown c)) (by_subgraph (shown b) (shown c)) (w.steps size name n) (by_subgraph_lem (shown b) (shown c));
  }

  -- the subgraph steps at the front of one table, and the translation steps at that of another
  module _ (steps rows l d : List ℕ) (m n : ℕ) (ready : Gatherable b first c second (pairs_of_both b c) rows steps)
      (one : Gathered b first c second (by_kind Subgraph) (pairs_of_kind Subgraph b c) l m)
      (two : Gathered b first c second (by_kind Translation) (pairs_of_kind Translation b c) d n)
      (front : List ℕ) (front_is : front ≡ take m l) (back : List ℕ) (back_is : back ≡ take n d)
      (front_long : length front ≡ m) (back_long : length back ≡ n) where
    pub both_mergeable : (out : List ℕ) → length out ≡ length steps → Mergeable front back out
    both_mergeable out same =
        let s = one.steps ready.size ready.name ready.numbered in
        let u = two.steps ready.size ready.name ready.numbered in
        tables_mergeable front back ready.size ready.name (by_kind Subgraph (shown b) (shown c)) (by_kind Translation (shown b) (shown c)) (rw front_is s) (rw back_is u) out (omega (arith, one.count, two.count, ready.out_room))

    pub both_gathered : (out : List ℕ) (r : ℕ) → length out ≡ length steps → Merged front back out r
        → Gathered b first c second (by_question question.Full) (pairs_of_both b c) out r
    both_gathered out r same w = record {
      count = omega (arith, w.count, one.count, two.count);
      fits = omega (arith, w.count, one.count, two.count, ready.out_room);
      steps = λ size name v. table_same (take r out) size name (either (by_kind Subgraph (shown b) (shown c)) (by_kind Translation (shown b) (shown c))) (by_either (shown b) (shown c))
          (merged_table front back size name (by_kind Subgraph (shown b) (shown c)) (by_kind Translation (shown b) (shown c))
          (rw front_is (one.steps size name v)) (rw back_is (two.steps size name v))
          out (omega (arith, one.count, two.count, ready.out_room)) r w) (by_both (shown b) (shown c));
    }
