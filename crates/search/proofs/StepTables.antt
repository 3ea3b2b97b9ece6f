-- Tables of steps that stand for relations: the row of a list of pairs, two tables merged, and a table that can be searched.
use mathlib.Core.Path.{◌≡◌, sym, ◌∙◌}
use mathlib.Core.Logic.{◌⊎◌, inl, inr, ⊎_elim, ◌↔◌}
use mathlib.Core.List.{List}
use Rattle.std.specs.Prelude.{Option}
use Prim.Native.Nat.{ℕ, ◌+◌, ◌*◌, ◌/◌, ◌%◌, ◌≤◌, ◌<◌}
use native.Mathlib.Omega.{arith}
use lib.ListN.{length, take, get_or}
use lib.Seq.{length-take-le, get_or-take}
use Rattle.model.specs.declared.Kind.{Kind}
use Rattle.model.specs.Bytes.{Bytes}
use Rattle.model.specs.Record.{Pair, compare_pairs}
use Rattle.model.specs.Statements.{Ascending, Relation}
use Rattle.search.specs.Steps.{max_nodes, max_moves, leads}
use Rattle.search.specs.Table.{Rises, Holds, Mergeable, Merged, Indexed}
use Rattle.search.specs.Promise.{Searchable, SearchTables}
use Rattle.search.specs.Names.{kind_of, InOrder, StepTable, Row}
use Rattle.search.specs.Related.{of_kind, either}
use Rattle.search.proofs.Beginnings.{tables_searchable}
use Rattle.search.proofs.Rows.{row_rises, row_stands}

-- the steps of an ascending list of pairs of one kind
pub row_table : (kind : Kind) (n : ℕ) (name : ℕ → Bytes) (ps : List Pair) (row : List ℕ) → n ≤ max_nodes → InOrder name n → Row kind n name ps row → Ascending compare_pairs ps
    → StepTable row n name (of_kind kind ps)
row_table kind n name ps row few order r a = record { few = few; rises = row_rises kind n name ps row order r a; stands = row_stands kind n name ps row order r few }

-- the same relations, said otherwise
pub table_same : (steps : List ℕ) (n : ℕ) (name : ℕ → Bytes) (R S : Relation) → StepTable steps n name R → ((k : Kind) (a b : Bytes) → R k a b ↔ S k a b) → StepTable steps n name S
table_same steps n name R S t same = record {
  few = t.few;
  rises = t.rises;
  stands = record {
    order = t.stands.order;
    small = t.stands.small;
    inside = t.stands.inside;
    there = λ v m w. (same (kind_of m) (name v) (name (m % max_nodes))).0 (t.stands.there v m w);
    back = λ k v b l w. t.stands.back k v b l ((same k (name v) b).1 w);
  };
}

-- each step leads to a node
step_node : (steps : List ℕ) (n : ℕ) (name : ℕ → Bytes) (R : Relation) → StepTable steps n name R → (e : ℕ) → e < length steps → get_or steps e 0 % max_nodes < n
step_node steps n name R t e l =
    let i = t.stands.inside (get_or steps e 0 / max_moves) (get_or steps e 0 % max_moves) (omega arith, (e, l, omega arith)) in
    omega (arith, i.1)

-- a table with room for its index can be searched, once it has the index
pub search_tables : (steps starts : List ℕ) (from : ℕ) (q : List ℕ) (places : List (Option ℕ)) (name : ℕ → Bytes) (R : Relation) → StepTable steps (length places) name R
    → length starts ≡ length places + 1 → length q ≡ length places → from < length places → SearchTables steps starts from q places
search_tables steps starts from q places name R t long same l = record {
  connects = record { rises = λ e f l m. omega (arith, t.rises e f l m); nodes = step_node steps (length places) name R t; long = long };
  room = record { queue = same; small = t.few };
  start = l;
}

-- and with its index it is what a search wants
pub searchable : (steps starts : List ℕ) (from : ℕ) (q : List ℕ) (places : List (Option ℕ)) (name : ℕ → Bytes) (R : Relation) → StepTable steps (length places) name R
    → Indexed steps starts → length starts ≡ length places + 1 → length q ≡ length places → from < length places → Searchable steps starts from q places
searchable steps starts from q places name R t index long same l =
    tables_searchable steps starts from q places index (search_tables steps starts from q places name R t long same l)

-- ------------------------------------------------------------------ two as one

module _ (a b out : List ℕ) (n : ℕ) (m : Merged a b out n) (room : n ≤ length out) where
  long : length (take n out) ≡ n
  long = length-take-le n out room

  merged_rises : Rises (take n out) (length (take n out))
  merged_rises i j l h =
      let j_in : j < n = omega (arith, long) in
      let i_in : i < n = omega arith in
      rw (get_or-take n out i 0 i_in, get_or-take n out j 0 j_in) (m.rises i j l j_in)

  merged_there : (v k : ℕ) → leads (take n out) v k → leads a v k ⊎ leads b v k
  merged_there v k r =
      let l : r.1.0 < n = omega (arith, long, r.1.1) in
      ⊎_elim
      (λ (f : Holds a (length a) (v * max_moves + k)). inl (r.0, f))
      (λ (f : Holds b (length b) (v * max_moves + k)). inr (r.0, f))
      (m.either (v * max_moves + k) (r.1.0, l, sym (get_or-take n out r.1.0 0 l) ∙ r.1.2))

  merged_back : (v k : ℕ) → leads a v k ⊎ leads b v k → leads (take n out) v k
  merged_back v k = ⊎_elim
      (λ (r : leads a v k). held r.0 (m.first (v * max_moves + k) r.1))
      (λ (r : leads b v k). held r.0 (m.second (v * max_moves + k) r.1))
    where
      held : k < max_moves → Holds out n (v * max_moves + k) → leads (take n out) v k
      held s f = (s, (f.0, rw long f.1, get_or-take n out f.0 0 f.1 ∙ f.2))

module _ (a b : List ℕ) (n : ℕ) (name : ℕ → Bytes) (R S : Relation) (s : StepTable a n name R) (t : StepTable b n name S) (out : List ℕ) (room : length a + length b ≤ length out) where
  pub tables_mergeable : Mergeable a b out
  tables_mergeable = record {
    first_rises = s.rises;
    second_rises = t.rises;
    room = room;
  }

  -- the merged table stands for the relations of either
  pub merged_table : (r : ℕ) → Merged a b out r → StepTable (take r out) n name (either R S)
  merged_table r m = record {
    few = s.few;
    rises = merged_rises a b out r m most;
    stands = record {
      order = s.stands.order;
      small = λ v k w. w.0;
      inside = λ v k w. ⊎_elim (λ (x : leads a v k). s.stands.inside v k x) (λ (x : leads b v k). t.stands.inside v k x) (there v k w);
      there = λ v k w. ⊎_elim (λ (x : leads a v k). inl (s.stands.there v k x)) (λ (x : leads b v k). inr (t.stands.there v k x)) (there v k w);
      back = λ k v d l w. ⊎_elim
          (λ (x : R k (name v) d). let f = s.stands.back k v d l x in (f.0, back v f.0 (inl f.1), f.2, f.3))
          (λ (x : S k (name v) d). let f = t.stands.back k v d l x in (f.0, back v f.0 (inr f.1), f.2, f.3))
          w;
    };
  }
    where
      most : r ≤ length out
      most = omega (arith, m.count)

      there : (v k : ℕ) → leads (take r out) v k → leads a v k ⊎ leads b v k
      there = merged_there a b out r m most

      back : (v k : ℕ) → leads a v k ⊎ leads b v k → leads (take r out) v k
      back = merged_back a b out r m most
