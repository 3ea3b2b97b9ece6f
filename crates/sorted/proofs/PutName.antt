-- A name put into the tables: what it leaves of them where it is there, and where it is new.
use mathlib.Core.Path.{◌≡◌, refl, sym, ap, ◌∙◌}
use mathlib.Core.Logic.{⊎_elim}
use mathlib.Core.Bool.{false}
use mathlib.Core.List.{List, [], ◌∷◌, ◌++◌, map, Memᴰ, append-nil}
use Rattle.std.specs.Prelude.{None, Ok, Err}
use Rattle.std.specs.List.{insert as inserted}
use Rattle.std.proofs.lemmas.List.Edits.{length-insert}
use Rattle.std.proofs.lemmas.Bool.{or_parts}
use Prim.Native.Nat.{ℕ, zero, suc, ◌+◌, ◌*◌, ◌/◌, ◌%◌, ◌≤◌, ◌<◌}
use native.Mathlib.Omega.{arith}
use lib.ListN.{length, length-append, length-map}
use Rattle.std.proofs.Math.Seq.{take-length}
use Rattle.std.proofs.Common.{drop_of_length-le}
use lib.Dec.{ltb}
use borrow.Author.Tests.{le-ltb}
use Rattle.model.specs.Bytes.{Bytes, compare_numbers, compare_bytes, put}
use Rattle.model.specs.Record.{insert, any_long, max_name_bytes}
use Rattle.model.specs.Statements.{Ascending}
use Rattle.record.specs.Test.{Under}
use Rattle.record.specs.Coded.{pair_in}
use Rattle.record.proofs.Words.{under_weaken}
use Rattle.text.proofs.Order.{bytes_order}
use Rattle.text.proofs.Ascending.{insert_ascending}
use Rattle.sorted.specs.Sorted.{sought, renumbered}
use Rattle.sorted.specs.Tables.{Tables, holding, body_in, places_of, table_names, graph_in, pairs_in, KeptPairs, Kept, NamePut}
use Rattle.sorted.proofs.Lower.{Missing, found, missing}
use Rattle.sorted.proofs.Splice.{inserted_member, map_inserted, length_bodies_inserted}
use Rattle.sorted.proofs.Renumber.{renumbered_ascending, renumbered_under, renumbered_pairs}
use Rattle.sorted.proofs.Search.{length_names}
use Rattle.sorted.proofs.Bodies.{bodies_old, body_new, first_of, second_of}

pub same_put : (t : Tables) (name : Bytes) (p : ℕ) → Kept t → Ok p ≡ sought compare_bytes name (table_names t) → NamePut t name t p
same_put t name p k e =
    let f = found bytes_order [] name (table_names t) p e in
    record {
      kept = k;
      names = sym f.insert;
      graph = refl;
      place = f.place;
      count = omega arith;
      bytes = omega arith;
      subgraph = refl;
      translation = refl;
    }

any_inserted : (name : Bytes) (p : ℕ) (ns : List Bytes) → p ≤ length ns → length name ≤ max_name_bytes → any_long ns ≡ false → any_long (inserted ns p name) ≡ false
any_inserted name zero ns h s a = rw (le-ltb max_name_bytes (length name) s) a
any_inserted name (suc p) [] h s a = absurd (omega arith)
any_inserted name (suc p) (n ∷ ns) h s a =
    let (b, c) = or_parts (ltb max_name_bytes (length n)) (any_long ns) a in
    rw b (any_inserted name p ns (omega arith) s c)

-- the pairs of one kind, after a name came in at place p
module _ (n p : ℕ) (xs : List ℕ) (few : n < 65535) (pairs : KeptPairs n (length xs) xs) where
  abbrev after : List ℕ
  after = map (renumbered p) xs

  order_whole : Ascending compare_numbers xs
  order_whole = rw take-length at pairs.order

  under_whole : Under n (map places_of xs)
  under_whole = rw take-length at pairs.under

  kept_renumbered : KeptPairs (n + 1) (length after) after
  kept_renumbered = record {
    order = rw take-length (renumbered_ascending p xs (under_weaken n 65535 _ (omega arith) under_whole) order_whole);
    under = rw take-length (renumbered_under p n xs (omega arith) under_whole);
    within = omega arith;
  }

  shown_renumbered : (name : Bytes) (ns : List Bytes) → p ≤ length ns
      → map (pair_in (inserted ns p name)) (pairs_in (length after) after) ≡ map (pair_in ns) (pairs_in (length xs) xs)
  shown_renumbered name ns h = rw (take-length after, take-length xs) (renumbered_pairs name p n ns xs h (omega arith) under_whole)

put_end : (pool name : Bytes) → put pool (length pool) name ≡ pool ++ name
unfolding put
put_end pool name = rw (take-length pool, drop_of_length-le pool {i = length pool + length name} (omega arith)) (ap (◌++◌ pool) (append-nil name))

module _ (refs subs trans : List ℕ) (pool name : Bytes) (k : Kept (holding refs subs trans pool)) (short : length name ≤ max_name_bytes)
    (few : length refs < 65535) (small : length pool + length name < 65536)
    (p : ℕ) (new : Err p ≡ sought compare_bytes name (table_names (holding refs subs trans pool))) where
  abbrev t : Tables
  t = holding refs subs trans pool

  gap : Missing compare_bytes name (table_names t) p
  gap = missing bytes_order [] name (table_names t) p new

  abbrev ref : ℕ
  ref = length pool * 65536 + length name

  abbrev grown_refs : List ℕ
  grown_refs = inserted refs p ref

  abbrev grown : Tables
  grown = holding grown_refs (map (renumbered p) subs) (map (renumbered p) trans) (pool ++ name)

  p_le : p ≤ length refs
  p_le = let l = length_names pool (length refs) refs k.count in omega (arith, gap.within)

  count_grown : length grown_refs ≡ length refs + 1
  count_grown = length-insert refs p ref p_le

  long_pool : length (pool ++ name) ≡ length pool + length name
  long_pool = length-append pool name

  names_whole : table_names t ≡ map (body_in pool) refs
  names_whole = ap (map (body_in pool)) (take-length refs)

  within_whole : (r : ℕ) → Memᴰ r refs → r / 65536 + r % 65536 ≤ length pool
  within_whole = rw take-length at k.within

  grown_names : table_names grown ≡ inserted (table_names t) p name
  grown_names =
      rw (
        take-length grown_refs,
        names_whole,
        map_inserted ref (body_in (pool ++ name)) p refs p_le,
        ← put_end pool name,
        body_new pool name (length pool) (omega arith) (omega (arith, short)),
        bodies_old pool name (length pool) refs (omega arith) within_whole,
      )
      refl

  grown_insert : table_names grown ≡ insert compare_bytes name (table_names t)
  grown_insert = grown_names ∙ sym gap.insert

  grown_within : (x : ℕ) → Memᴰ x grown_refs → x / 65536 + x % 65536 ≤ length (pool ++ name)
  grown_within x m =
      let s = short in
      let l = long_pool in
      ⊎_elim
      (λ (e : x ≡ ref). rw (e, first_of (length pool) (length name) (omega arith), second_of (length pool) (length name) (omega arith)) (omega arith))
      (λ (o : Memᴰ x refs). omega (arith, within_whole x o))
      (inserted_member ref p refs x p_le m)

  grown_kept : Kept grown
  grown_kept = record {
    order = rw grown_insert (insert_ascending bytes_order name (table_names t) k.order);
    short = rw grown_names (any_inserted name p (table_names t) gap.within short k.short);
    within = rw (take-length grown_refs) grown_within;
    total = rw (grown_names, length_bodies_inserted name p (table_names t) gap.within, ← k.total) long_pool;
    count = omega arith;
    room = omega arith;
    few = omega (arith, count_grown);
    small = omega (arith, long_pool);
    subgraph = rw count_grown (kept_renumbered (length refs) p subs few k.subgraph);
    translation = rw count_grown (kept_renumbered (length refs) p trans few k.translation);
  }

  grown_graph : graph_in grown ≡ graph_in t
  grown_graph =
      rw grown_names
      (λ i. record {
        name = None;
        subgraph = shown_renumbered (length refs) p subs few k.subgraph name (table_names t) gap.within i;
        translation = shown_renumbered (length refs) p trans few k.translation name (table_names t) gap.within i;
      })

  grown_put : NamePut t name grown p
  grown_put = record {
    kept = grown_kept;
    names = grown_insert;
    graph = grown_graph;
    place = gap.place;
    count = omega (arith, count_grown);
    bytes = omega (arith, long_pool);
    subgraph = length-map subs (renumbered p);
    translation = length-map trans (renumbered p);
  }

  -- as the code leaves the tables
  pub new_put : (refs' subs' trans' : List ℕ) (pool' : Bytes) → refs' ≡ grown.refs → subs' ≡ grown.subs → trans' ≡ grown.trans → pool' ≡ grown.pool
      → NamePut t name (holding refs' subs' trans' pool') p
  new_put refs' subs' trans' pool' a b c d = rw (a, b, c, d) grown_put
