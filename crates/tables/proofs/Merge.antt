-- All pairs of a graph name put into tables: the names never are more than those of both, and the pairs never more than both have.
use mathlib.Core.Path.{◌≡◌, refl, ap, ◌∙◌}
use mathlib.Core.Logic.{inl, inr, ⊎_elim}
use mathlib.Core.Bool.{false}
use mathlib.Core.List.Memᴰ
use mathlib.Core.List.{List, [], ◌∷◌, Memᴰ}
use Rattle.std.specs.Prelude.{Option}
use Prim.Native.Nat.{ℕ, suc, ◌+◌, ◌≤◌}
use native.Mathlib.Omega.{arith}
use lib.ListN.{length}
use Rattle.model.specs.declared.Kind.{Kind}
use Rattle.model.specs.declared.Kind.TheVariants.{Subgraph, Translation}
use Rattle.model.specs.Bytes.{Bytes, compare_bytes}
use Rattle.model.specs.Record.{Pair, GraphName, compare_pairs, insert, with_pair, names, pair_names, any_long, bodies}
use Rattle.model.specs.Questions.{pairs_of}
use Rattle.model.specs.Statements.{Ascending}
use Rattle.record.proofs.Names.{pair_listed}
use Rattle.record.proofs.Sizes.{short_names}
use Rattle.text.proofs.Order.{bytes_order}
use Rattle.text.proofs.Ascending.{insert_members, insert_all_ascending, insert_all_members}
use Rattle.sorted.specs.Tables.{Tables, table_names, graph_in, Kept, PairRoom, PairPut}
use Rattle.sorted.specs.Loading.{sizes_of, Good}
use Rattle.tables.specs.Merging.{with_pairs, subgraph_more, translation_more, all_of, MergeRoom, PairsPut}
use Rattle.sorted.proofs.Search.{length_names}
use Rattle.text.proofs.Total.{total_count, total_bodies, total_insert, total_insert_all, ascending_once, total_part}
use Rattle.tables.proofs.Judge.{length_shown, good_put}

-- ------------------------------------------------------------------ sums over a part of the names

module _ (ns us : List Bytes) (a : Ascending compare_bytes ns) (h : (x : Bytes) → Memᴰ x ns → Memᴰ x us) where
  pub fewer : length ns ≤ length us
  fewer = omega (arith, total_part (λ (x : Bytes). 1) ns us (ascending_once bytes_order ns a) h, total_count ns, total_count us)

  pub shorter : length (bodies ns) ≤ length (bodies us)
  shorter = omega (arith, total_part length ns us (ascending_once bytes_order ns a) h, total_bodies ns, total_bodies us)

pub all_ascending : (t : Tables) (h : GraphName) → Kept t → Ascending compare_bytes (all_of t h)
all_ascending t h k = insert_all_ascending bytes_order (names h) (table_names t) k.order

-- they are no more than both have
module _ (t : Tables) (h : GraphName) (kept : Kept t) where
  pub all_count : length (all_of t h) ≤ t.sizes.names + (sizes_of h).names
  all_count =
      omega (
        arith,
        total_insert_all compare_bytes (λ (x : Bytes). 1) (names h) (table_names t),
        total_count (all_of t h),
        total_count (names h),
        total_count (table_names t),
        length_names t.pool t.sizes.names t.refs kept.count,
      )

  pub all_bytes : length (bodies (all_of t h)) ≤ t.sizes.bytes + (sizes_of h).bytes
  all_bytes =
      omega (
        arith,
        total_insert_all compare_bytes length (names h) (table_names t),
        total_bodies (all_of t h),
        total_bodies (names h),
        total_bodies (table_names t),
        kept.total,
      )

-- ------------------------------------------------------------------ one pair

insert_length : (p : Pair) (ps : List Pair) → length (insert compare_pairs p ps) ≤ length ps + 1
insert_length p ps = omega (arith, total_insert compare_pairs (λ (q : Pair). 1) p ps, total_count (insert compare_pairs p ps), total_count ps)

with_subgraph : (kind : Kind) (p : Pair) (g : GraphName) → length (with_pair kind p g).subgraph ≤ length g.subgraph + subgraph_more kind 1
with_subgraph Subgraph p g = insert_length p g.subgraph
with_subgraph Translation p g = omega arith

with_translation : (kind : Kind) (p : Pair) (g : GraphName) → length (with_pair kind p g).translation ≤ length g.translation + translation_more kind 1
with_translation Subgraph p g = omega arith
with_translation Translation p g = insert_length p g.translation

count_subgraph : (t : Tables) → Kept t → length (graph_in t).subgraph ≡ t.sizes.subgraph
count_subgraph t k = length_shown (table_names t) t.sizes.subgraph t.subs k.subgraph.within

count_translation : (t : Tables) → Kept t → length (graph_in t).translation ≡ t.sizes.translation
count_translation t k = length_shown (table_names t) t.sizes.translation t.trans k.translation.within

more_subgraph : (kind : Kind) (i : ℕ) → subgraph_more kind i + subgraph_more kind 1 ≡ subgraph_more kind (suc i)
more_subgraph Subgraph i = omega arith
more_subgraph Translation i = omega arith

more_translation : (kind : Kind) (i : ℕ) → translation_more kind i + translation_more kind 1 ≡ translation_more kind (suc i)
more_translation Subgraph i = omega arith
more_translation Translation i = omega arith

-- ------------------------------------------------------------------ a turn

-- all pairs of a kind are in but those that are left
pub record Putting (kind : Kind) (t : Tables) (h : GraphName) (left : List Pair) (u : Tables) : Type 0 where
  pub kept : Kept u
  pub good : (own : Option Bytes) → Good own t → Good own u
  pub graph : with_pairs kind left (graph_in u) ≡ with_pairs kind (pairs_of kind h) (graph_in t)
  pub within : (x : Bytes) → Memᴰ x (table_names u) → Memᴰ x (all_of t h)
  pub listed : (x : Bytes) → Memᴰ x (pair_names left) → Memᴰ x (names h)
  pub subgraph : u.sizes.subgraph + subgraph_more kind (length left) ≤ t.sizes.subgraph + subgraph_more kind (length (pairs_of kind h))
  pub translation : u.sizes.translation + translation_more kind (length left) ≤ t.sizes.translation + translation_more kind (length (pairs_of kind h))

pub putting_start : (kind : Kind) (t : Tables) (h : GraphName) → Kept t → Putting kind t h (pairs_of kind h) t
putting_start kind t h k = record {
  kept = k;
  good = λ own g. g;
  graph = refl;
  within = λ x m. (insert_all_members bytes_order (names h) (table_names t) x).1 (inr m);
  listed = pair_listed h kind;
  subgraph = omega arith;
  translation = omega arith;
}

module _ {kind : Kind} {t : Tables} {h : GraphName} {left : List Pair} {u : Tables} (s : Putting kind t h left u) where
  count_names : length (table_names u) ≡ u.sizes.names
  count_names = length_names u.pool u.sizes.names u.refs s.kept.count

  names_few : u.sizes.names ≤ length (all_of t h)
  names_few = omega (arith, fewer (table_names u) (all_of t h) s.kept.order s.within, count_names)

  names_short : u.sizes.bytes ≤ length (bodies (all_of t h))
  names_short = omega (arith, shorter (table_names u) (all_of t h) s.kept.order s.within, s.kept.total)

  pub putting_end : left ≡ [] → PairsPut kind t h u
  putting_end e = record {
    kept = s.kept;
    good = s.good;
    graph = rw e at s.graph;
    within = s.within;
    subgraph = omega (arith, s.subgraph);
    translation = omega (arith, s.translation);
  }

  module _ {p : Pair} {rest : List Pair} (e : left ≡ p ∷ rest) where
    from_listed : Memᴰ p.from (names h)
    from_listed = s.listed p.from (rw e (mathlib.Core.List.Memᴰ.head refl))

    to_listed : Memᴰ p.to (names h)
    to_listed = s.listed p.to (rw e (mathlib.Core.List.Memᴰ.tail (mathlib.Core.List.Memᴰ.head refl)))

    -- room for the next
    pub putting_room : (n k m : ℕ) → any_long (names h) ≡ false
        → MergeRoom n k m t h (subgraph_more kind (length (pairs_of kind h))) (translation_more kind (length (pairs_of kind h))) → PairRoom n k m u p.from p.to
    putting_room n k m short r = record {
      from_short = (short_names (names h)).0 short p.from from_listed;
      to_short = (short_names (names h)).0 short p.to to_listed;
      count = omega (arith, names_few, r.count);
      room = omega (arith, names_short, r.room, (short_names (names h)).0 short p.from from_listed, (short_names (names h)).0 short p.to to_listed);
      subgraph = omega (arith, s.subgraph, r.subgraph);
      translation = omega (arith, s.translation, r.translation);
    }

    -- the next is in
    pub putting_turn : (w : Tables) → PairPut kind u p.from p.to w → Putting kind t h rest w
    putting_turn w q = record {
      kept = q.kept;
      good = λ own g. good_put own kind u w p.from p.to (s.good own g) q;
      graph = ap (with_pairs kind rest) q.graph ∙ rw e at s.graph;
      within = inside;
      listed = λ x m. s.listed x (rw e (mathlib.Core.List.Memᴰ.tail (mathlib.Core.List.Memᴰ.tail m)));
      subgraph =
          omega (
            arith,
            with_subgraph kind p (graph_in u),
            ap (λ (g : GraphName). length g.subgraph) q.graph,
            count_subgraph u s.kept,
            count_subgraph w q.kept,
            rw e at s.subgraph,
            more_subgraph kind (length rest),
          );
      translation =
          omega (
            arith,
            with_translation kind p (graph_in u),
            ap (λ (g : GraphName). length g.translation) q.graph,
            count_translation u s.kept,
            count_translation w q.kept,
            rw e at s.translation,
            more_translation kind (length rest),
          );
    }
      where
        listed : (x : Bytes) → Memᴰ x (names h) → Memᴰ x (all_of t h)
        listed x m = (insert_all_members bytes_order (names h) (table_names t) x).1 (inl m)

        inside : (x : Bytes) → Memᴰ x (table_names w) → Memᴰ x (all_of t h)
        inside x m =
            ⊎_elim
            (λ (d : x ≡ p.to). listed x (rw d to_listed))
            (λ (n : Memᴰ x (insert compare_bytes p.from (table_names u))). ⊎_elim
            (λ (d : x ≡ p.from). listed x (rw d from_listed))
            (s.within x)
            ((insert_members bytes_order p.from (table_names u) x).0 n))
            ((insert_members bytes_order p.to (insert compare_bytes p.from (table_names u)) x).0 (rw q.names at m))
