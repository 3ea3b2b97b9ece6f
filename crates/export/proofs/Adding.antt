-- Pairs added in their order: each goes behind those before it, and what then stands is within the sizes of the whole.
use mathlib.Core.Path.{◌≡◌, refl, ap, ◌∙◌}
use mathlib.Core.List.Memᴰ
use mathlib.Core.List.{List, [], ◌∷◌, ◌++◌, append-nil}
use Rattle.std.specs.Prelude.{Option, Some}
use Prim.Native.Nat.{ℕ}
use lib.Seq.{append_snoc}
use Rattle.std.specs.declared.cmp.Ordering.{Ordering}
use Rattle.model.specs.Bytes.{Bytes}
use Rattle.model.specs.declared.Kind.TheVariants.{Subgraph, Translation}
use Rattle.model.specs.Record.{Pair, GraphName, insert, empty, with_name, judge}
use Rattle.model.specs.Reading.{took, judged, or_wrong, add_to}
use Rattle.model.specs.Statements.{Ascending, Valid}
use Rattle.text.proofs.Order.{StrictOrder, pairs_order}
use Rattle.text.proofs.Ascending.{ascending_tail, ascending_below}
use Rattle.export.proofs.Sizes.{judge_front}

insert_last : {A : Type 0} {cmp : A → A → Ordering} → StrictOrder cmp → (xs : List A) (p : A) (ps : List A) → Ascending cmp (xs ++ (p ∷ ps))
    → insert cmp p xs ≡ xs ++ (p ∷ [])
unfolding insert
insert_last ord [] p ps a = refl
insert_last {cmp} ord (x ∷ xs) p ps a =
    let less = ascending_below ord x (xs ++ (p ∷ ps)) a p (Memᴰ.append_right xs (Memᴰ.head refl)) in
    rw (ord.flip x p, less) (ap (◌∷◌ x) (insert_last ord xs p ps (ascending_tail cmp x (xs ++ (p ∷ ps)) a)))

judged_took : (g : GraphName) → judge g ≡ 0 → judged g ≡ took g
judged_took g e = rw e

-- with the pairs `xs` added, the next of `all` is added behind them
pub record Adds (add : GraphName → Option Pair → Option GraphName) (state : List Pair → GraphName) (all : List Pair) : Type 0 where
  pub next : (xs : List Pair) (p : Pair) (ps : List Pair) → xs ++ (p ∷ ps) ≡ all → (number : ℕ)
      → or_wrong number (add (state xs) (Some p)) ≡ took (state (xs ++ (p ∷ [])))

-- g with these of its subgraph pairs and no translation pair yet; g with these of its translation pairs
abbrev pub with_subgraphs : GraphName → List Pair → GraphName
with_subgraphs g ps = record { name = g.name; subgraph = ps; translation = [] }

abbrev pub with_translations : GraphName → List Pair → GraphName
with_translations g ps = record { name = g.name; subgraph = g.subgraph; translation = ps }

module _ (g : GraphName) (v : Valid g) where
  pub adds_subgraphs : Adds (add_to Subgraph) (with_subgraphs g) g.subgraph
  adds_subgraphs = record {
    next = λ xs p ps e number.
        let shape = append_snoc xs p ps ∙ e in
        rw (insert_last pairs_order xs p ps (rw e v.subgraphs))
        (judged_took (with_subgraphs g (xs ++ (p ∷ [])))
        (judge_front g.name (xs ++ (p ∷ [])) ps [] g.translation (rw shape v.sizes)));
  }

  pub adds_translations : Adds (add_to Translation) (with_translations g) g.translation
  adds_translations = record {
    next = λ xs p ps e number.
        let shape = append_snoc xs p ps ∙ e in
        rw (insert_last pairs_order xs p ps (rw e v.translations))
        (judged_took (with_translations g (xs ++ (p ∷ [])))
        (judge_front g.name g.subgraph [] (xs ++ (p ∷ [])) ps (rw (shape, append-nil g.subgraph) v.sizes)));
  }

  -- the own name, as the first thing read
  pub name_alone : (n : Bytes) → g.name ≡ Some n → judged (with_name n empty) ≡ took (with_name n empty)
  name_alone n e = judged_took (with_name n empty) (rw e at (judge_front g.name [] g.subgraph [] g.translation v.sizes))
