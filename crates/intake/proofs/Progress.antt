-- A pair taken into the tables: a long name is one of the names that are judged; short ones have room.
use Rattle.std.proofs.Common.{◌≡◌, refl, ap, sym, ◌∙◌, Bool, true, false, ◌||◌, List, inr, ℕ, ◌≤◌, ◌<◌, ◌+◌, ◌*◌, arith, ltb, length, lt-ltb}
use Rattle.std.specs.Prelude.{Option, Some, None}
use Rattle.model.specs.declared.Kind.{Kind}
use Rattle.model.specs.Bytes.{Bytes, compare_bytes}
use Rattle.model.specs.Record.{Pair, GraphName, insert, names, any_long, bodies, with_name, with_pair, judge, max_name_bytes, max_names, max_pairs, max_bodies_bytes}
use Rattle.model.specs.Statements.{Ascending}
use Rattle.model.specs.Reading.{wrong, judged}
use Rattle.text.proofs.Order.{bytes_order}
use Rattle.text.proofs.Ascending.{insert_members}
use Rattle.text.proofs.Tests.{either_true}
use Rattle.text.proofs.Total.{total, total_count, total_bodies, ascending_once, total_part}
use Rattle.record.proofs.Sizes.{judge_sizes}
use Rattle.sorted.specs.Tables.{Tables, table_names, graph_in, PairRoom}
use Rattle.sorted.specs.Loading.{sizes_of, Limited, owned, Good}
use Rattle.sorted.proofs.Search.{length_names}
use Rattle.sorted.proofs.Pairs.{names_with_pair}
use Rattle.tables.specs.Judging.{names_and}
use Rattle.tables.proofs.Judge.{names_owned, any_insert, length_shown, good_put}

-- ------------------------------------------------------------------ a long name of a pair's is one of the names

judged_long : (g : GraphName) → any_long (names g) ≡ true → judged g ≡ wrong 11
unfolding judge
judged_long g e = rw e

either_more : (s t u : Bool) → s || t ≡ true → s || (t || u) ≡ true
either_more true t u e = refl
either_more false true u e = refl
either_more false false u e = cc

module _ (k : Kind) (from to : Bytes) (g : GraphName) where
  abbrev pair : Pair
  pair = record { from = from; to = to }

  long_pair : ltb max_name_bytes (length to) || ltb max_name_bytes (length from) ≡ true → wrong 11 ≡ judged (with_pair k pair g)
  long_pair l =
      let m : any_long (names (with_pair k pair g)) ≡ true =
      ap any_long (names_with_pair k pair g) ∙ any_insert to (insert compare_bytes from (names g)) ∙ rw (any_insert from (names g)) (either_more (ltb max_name_bytes (length to)) (ltb max_name_bytes (length from)) (any_long (names g)) l) in
      sym (judged_long (with_pair k pair g) m)

  pub long_from : max_name_bytes < length from → wrong 11 ≡ judged (with_pair k pair g)
  long_from l = long_pair ((either_true (ltb max_name_bytes (length to)) (ltb max_name_bytes (length from))).1 (inr (lt-ltb max_name_bytes (length from) l)))

  pub long_to : max_name_bytes < length to → wrong 11 ≡ judged (with_pair k pair g)
  long_to l = long_pair (rw (lt-ltb max_name_bytes (length to) l) refl)

pub long_name : (x : Bytes) (g : GraphName) → max_name_bytes < length x → wrong 11 ≡ judged (with_name x g)
long_name x g l = sym (judged_long (with_name x g) m)
  where
    m : any_long (names (with_name x g)) ≡ true
    m = ap any_long (names_owned (Some x) g) ∙ any_insert x (names (owned None g)) ∙ rw (lt-ltb max_name_bytes (length x) l) refl

-- ------------------------------------------------------------------ the room for a pair

-- an own name makes the names no fewer
with_more : (o : Option Bytes) (ns : List Bytes) → Ascending compare_bytes ns
    → (length ns ≤ length (names_and o ns)) × (length (bodies ns) ≤ length (bodies (names_and o ns)))
with_more None ns a = omega arith
with_more (Some x) ns a =
    let c = rw (total_count ns, total_count (insert compare_bytes x ns)) at (more (λ y. 1)) in
    let b = rw (total_bodies ns, total_bodies (insert compare_bytes x ns)) at (more length) in
    (c, b)
  where
    more : (f : Bytes → ℕ) → total f ns ≤ total f (insert compare_bytes x ns)
    more f = total_part f ns (insert compare_bytes x ns) (ascending_once bytes_order ns a) (λ y m. (insert_members bytes_order x ns y).1 (inr m))

-- what is in use is what the graph name of all pairs takes
pub sizes_in_use : (t : Tables) → Good None t → t.sizes ≡ sizes_of (owned None (graph_in t))
sizes_in_use t good = rw (
  good.used,
  length_names t.pool t.sizes.names t.refs good.kept.count,
  ← good.kept.total,
  length_shown (table_names t) t.sizes.subgraph t.subs good.kept.subgraph.within,
  length_shown (table_names t) t.sizes.translation t.trans good.kept.translation.within,
) refl

module _ (t : Tables) (own : Option Bytes) (good : Good None t) where
  abbrev so_far : GraphName
  so_far = owned own (graph_in t)

  module _ (sizes : judge so_far ≡ 0) where
    -- what is in use is within the sizes of docs/FORMAT.md, also with the own name
    pub in_use : Limited t.sizes
    in_use =
        let s = judge_sizes so_far sizes in
        let e = names_owned own (graph_in t) ∙ ap (names_and own) good.used in
        let m = with_more own (table_names t) good.kept.order in
        let c = length_names t.pool t.sizes.names t.refs good.kept.count in
        record {
          names = omega (arith, s.count, ap length e, m, c);
          bytes = omega (arith, s.room, ap (λ (ns : List Bytes). length (bodies ns)) e, m, good.kept.total);
          subgraph = omega (arith, s.subgraphs, length_shown (table_names t) t.sizes.subgraph t.subs good.kept.subgraph.within);
          translation = omega (arith, s.translations, length_shown (table_names t) t.sizes.translation t.trans good.kept.translation.within);
        }

    -- so there is room for two names and a pair more
    pub pair_room : (from to : Bytes) → length from ≤ max_name_bytes → length to ≤ max_name_bytes
        → PairRoom (max_names + 2) (max_pairs + 1) (max_bodies_bytes + 2 * max_name_bytes) t from to
    pair_room from to f g = record {
      from_short = f;
      to_short = g;
      count = omega (arith, in_use);
      room = omega (arith, in_use);
      subgraph = omega (arith, in_use);
      translation = omega (arith, in_use);
    }

pub ruleset pairs = (long_from, long_to, good_put)
