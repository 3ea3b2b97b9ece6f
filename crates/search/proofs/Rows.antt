-- The steps of an ascending list of pairs ascend, and stand for its relations.
use mathlib.Core.Path.{◌≡◌, sym, ap, ◌∙◌}
use mathlib.Core.Logic.{⊎_elim}
use mathlib.Core.List.Memᴰ
use mathlib.Core.List.{List}
use Prim.Native.Nat.{ℕ, ◌/◌, ◌%◌, ◌≤◌, ◌<◌}
use native.Mathlib.Omega.{arith}
use lib.ListN.{length, get_or}
use borrow.Author.Tests.{lt-ltb, le-ltb}
use Rattle.std.specs.declared.cmp.Ordering.TheVariants.{Less, Equal}
use Rattle.model.specs.declared.Kind.{Kind}
use Rattle.model.specs.declared.Kind.TheVariants.{Subgraph, Translation}
use Rattle.model.specs.Bytes.{Bytes, compare_bytes}
use Rattle.model.specs.Record.{Pair, compare_pairs}
use Rattle.model.specs.Path.{kind_number}
use Rattle.model.specs.Statements.{Ascending}
use Rattle.text.proofs.Order.{then_by_less, bytes_order, pairs_order}
use Rattle.text.proofs.Places.{get_or_member, member_get_or, ascending_get_or}
use Rattle.search.specs.Steps.{max_nodes, max_moves, leads}
use Rattle.search.specs.Table.{Rises}
use Rattle.search.specs.Related.{pair_of, of_kind}
use Rattle.search.specs.Names.{kind_of, InOrder, Stands, no_pair, Row}
use Rattle.search.proofs.Named.{apart, in_order}

kind_is : (k : Kind) (m : ℕ) → m / max_nodes ≡ kind_number k → kind_of m ≡ k
kind_is Subgraph m e = rw (lt-ltb m max_nodes (omega arith))
kind_is Translation m e = rw (le-ltb m max_nodes (omega arith))

module _ (kind : Kind) (n : ℕ) (name : ℕ → Bytes) (ps : List Pair) (row : List ℕ) (order : InOrder name n) (r : Row kind n name ps row) where
  pub row_rises : Ascending compare_pairs ps → Rises row (length row)
  unfolding compare_pairs
  row_rises a i j l m =
      let i_in : i < length row = omega arith in
      let less = ascending_get_or pairs_order no_pair ps i j a l (omega (arith, r.long)) in
      ⊎_elim
      (λ (h : compare_bytes (get_or ps i no_pair).from (get_or ps j no_pair).from ≡ Less).
      let o = in_order name n order (get_or row i 0 / max_moves) (get_or row j 0 / max_moves) (r.starts i i_in).0 (r.starts j m).0
      (rw ((r.starts i i_in).1, (r.starts j m).1) h) in
      omega arith)
      (λ (h : (compare_bytes (get_or ps i no_pair).from (get_or ps j no_pair).from ≡ Equal) × (compare_bytes (get_or ps i no_pair).to (get_or ps j no_pair).to ≡ Less)).
      let e = apart name n order (get_or row i 0 / max_moves) (get_or row j 0 / max_moves) (r.starts i i_in).0 (r.starts j m).0
      ((r.starts i i_in).1 ∙ bytes_order.same (get_or ps i no_pair).from (get_or ps j no_pair).from h.0 ∙ sym (r.starts j m).1) in
      let o = in_order name n order (get_or row i 0 % max_nodes) (get_or row j 0 % max_nodes) (r.ends i i_in).0 (r.ends j m).0
      (rw ((r.ends i i_in).1, (r.ends j m).1) h.1) in
      omega (arith, r.kinds i i_in, r.kinds j m))
      (then_by_less (compare_bytes (get_or ps i no_pair).from (get_or ps j no_pair).from) (compare_bytes (get_or ps i no_pair).to (get_or ps j no_pair).to) less)

  pub row_stands : n ≤ max_nodes → Stands (leads row) n name (of_kind kind ps)
  row_stands few = record { order = order; small = λ v m w. w.0; inside = inside; there = there; back = back }
    where
      inside : (v m : ℕ) → leads row v m → (v < n) × (m % max_nodes < n)
      inside v m w = (omega (arith, (r.starts w.1.0 w.1.1).0, w.0, w.1.2), omega (arith, (r.ends w.1.0 w.1.1).0, w.1.2))

      there : (v m : ℕ) → leads row v m → of_kind kind ps (kind_of m) (name v) (name (m % max_nodes))
      there v m w =
          let i = w.1.0 in
          let i_in : i < length row = w.1.1 in
          let e : get_or row i 0 / max_moves ≡ v = omega (arith, w.0, w.1.2) in
          let f : get_or row i 0 % max_nodes ≡ m % max_nodes = omega (arith, w.1.2) in
          let p : pair_of (name v) (name (m % max_nodes)) ≡ get_or ps i no_pair =
          λ t. record { from = (sym (ap name e) ∙ (r.starts i i_in).1) t; to = (sym (ap name f) ∙ (r.ends i i_in).1) t } in
          (kind_is kind m (omega (arith, r.kinds i i_in, w.0, w.1.2)), Memᴰ.cast p (get_or_member no_pair ps i (omega (arith, r.long))))

      back : (k : Kind) (v : ℕ) (b : Bytes) → v < n → of_kind kind ps k (name v) b → (m : ℕ) × leads row v m × (kind_of m ≡ k) × (name (m % max_nodes) ≡ b)
      back k v b l w =
          let f = member_get_or no_pair ps (pair_of (name v) b) w.1 in
          let i = f.0 in
          let i_in : i < length row = omega (arith, f.1, r.long) in
          let e : get_or row i 0 / max_moves ≡ v =
          apart name n order (get_or row i 0 / max_moves) v (r.starts i i_in).0 l ((r.starts i i_in).1 ∙ ap (λ (p : Pair). p.from) f.2) in
          let g : get_or row i 0 % max_moves % max_nodes ≡ get_or row i 0 % max_nodes = omega arith in (
            get_or row i 0 % max_moves,
            (omega arith, (i, i_in, omega arith)),
            kind_is kind (get_or row i 0 % max_moves) (r.kinds i i_in) ∙ sym w.0,
            ap name g ∙ (r.ends i i_in).1 ∙ ap (λ (p : Pair). p.to) f.2,
          )
