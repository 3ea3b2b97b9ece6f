-- The sizes of the graph name that tables show with an own name: the names are counted once, and the rest are counts at hand.
use mathlib.Core.Path.{◌≡◌, refl, sym, ap, ◌∙◌}
use mathlib.Core.Logic.{inl, inr, ⊎_elim}
use mathlib.Core.Bool.{Bool, true, false, ◌||◌}
use mathlib.Core.List.Memᴰ
use mathlib.Core.List.{List, [], ◌∷◌, map, Memᴰ}
use Rattle.std.specs.Prelude.{Option, Some, None, Result, Ok, Err}
use Rattle.std.proofs.lemmas.List.Edits.{length-insert}
use Rattle.model.specs.declared.fault.Fault.{Fault}
use Rattle.model.specs.Faults.{fault_number}
use Prim.Native.Nat.{ℕ, suc, ◌+◌, ◌≤◌, ◌<◌}
use native.Mathlib.Omega.{arith}
use lib.ListN.{length, take, length-map}
use lib.Seq.{length-take-le}
use lib.Dec.{ltb}
use borrow.Author.Tests.{lt-ltb, le-ltb, eq-eqb, ne_eqb}
use Rattle.std.specs.declared.cmp.Ordering.{Ordering}
use Rattle.std.specs.declared.cmp.Ordering.TheVariants.{Less, Equal, Greater}
use Rattle.model.specs.Bytes.{Bytes, by_order, compare_bytes}
use Rattle.model.specs.declared.Kind.{Kind}
use Rattle.model.specs.declared.Kind.TheVariants.{Subgraph, Translation}
use Rattle.model.specs.Record.{Pair, GraphName, insert, with_pair, names, any_long, bodies, judge, max_name_bytes, max_names, max_bodies_bytes}
use Rattle.model.specs.Layout.{encode}
use Rattle.model.specs.Outcome.{kept_or}
use Rattle.record.specs.Coded.{name_in, pair_in, own_in, meaning}
use Rattle.record.proofs.Sizes.{judge_sizes}
use Rattle.record.proofs.Names.{all_names, names_ascending, names_members, own_listed}
use Rattle.text.proofs.Order.{bytes_order}
use Rattle.text.proofs.Ascending.{insert_members, insert_ascending, insert_present, ascending_unique}
use Rattle.sorted.specs.Sorted.{sought}
use Rattle.sorted.specs.Tables.{Tables, table_names, graph_in, read_out, places_of, pairs_in, Kept, NamePut, PairPut}
use Rattle.sorted.specs.declared.putting.Sizes.{Sizes}
use Rattle.sorted.specs.Loading.{owned, Good}
use Rattle.tables.specs.Judging.{names_and, count_fault, size_fault, outcome, Complete, Storable}
use Rattle.sorted.proofs.Lower.{found, missing}
use Rattle.sorted.proofs.Splice.{length_bodies_inserted}
use Rattle.sorted.proofs.Search.{length_names}
use Rattle.sorted.proofs.Pairs.{names_with_pair}
use Rattle.sorted.proofs.PutPair.{insert_at_lower}

-- 0 is the number of no fault
pub no_fault : (e : Fault) → fault_number e ≡ 0 → ⊥
no_fault e z = grind arith

-- ------------------------------------------------------------------ the names with an own name

pub names_owned : (o : Option Bytes) (g : GraphName) → names (owned o g) ≡ names_and o (names (owned None g))
names_owned None g = refl
names_owned (Some n) g =
    ascending_unique bytes_order (names (owned (Some n) g)) (insert compare_bytes n (names (owned None g)))
    (names_ascending (owned (Some n) g))
    (insert_ascending bytes_order n (names (owned None g)) (names_ascending (owned None g)))
    (λ x. (there x, back x))
  where
    there : (x : Bytes) → Memᴰ x (names (owned (Some n) g)) → Memᴰ x (insert compare_bytes n (names (owned None g)))
    there x m =
        (insert_members bytes_order n (names (owned None g)) x).1
        (⊎_elim inl (λ (k : Memᴰ x (all_names (owned None g))). inr ((names_members (owned None g) x).1 k))
        (Memᴰ.cases_cons ((names_members (owned (Some n) g) x).0 m)))

    back : (x : Bytes) → Memᴰ x (insert compare_bytes n (names (owned None g))) → Memᴰ x (names (owned (Some n) g))
    back x m =
        (names_members (owned (Some n) g) x).1
        (⊎_elim (λ (e : x ≡ n). Memᴰ.head e) (λ (k : Memᴰ x (names (owned None g))). Memᴰ.tail ((names_members (owned None g) x).0 k))
        ((insert_members bytes_order n (names (owned None g)) x).0 m))

-- a long name among the names
either_swap : (s t u : Bool) → s || (t || u) ≡ t || (s || u)
either_swap true true u = refl
either_swap true false u = refl
either_swap false true u = refl
either_swap false false u = refl

either_same : (s u : Bool) → s || (s || u) ≡ s || u
either_same true u = refl
either_same false u = refl

pub any_insert : (n : Bytes) (ns : List Bytes) → any_long (insert compare_bytes n ns) ≡ ltb max_name_bytes (length n) || any_long ns
unfolding insert
any_insert n [] = refl
any_insert n (m ∷ ms) = go (compare_bytes n m) refl (any_insert n ms)
  where
    go : (o : Ordering) → compare_bytes n m ≡ o → any_long (insert compare_bytes n ms) ≡ ltb max_name_bytes (length n) || any_long ms
        → any_long (by_order o (n ∷ m ∷ ms) (m ∷ ms) (m ∷ insert compare_bytes n ms)) ≡ ltb max_name_bytes (length n) || (ltb max_name_bytes (length m) || any_long ms)
    go Less e h = refl
    go Equal e h = rw (bytes_order.same n m e) (sym (either_same (ltb max_name_bytes (length m)) (any_long ms)))
    go Greater e h = rw h (either_swap (ltb max_name_bytes (length m)) (ltb max_name_bytes (length n)) (any_long ms))

-- ------------------------------------------------------------------ the counts

pub length_shown : (ns : List Bytes) (k : ℕ) (xs : List ℕ) → k ≤ length xs → length (map (pair_in ns) (pairs_in k xs)) ≡ k
length_shown ns k xs h = length-map (pairs_in k xs) (pair_in ns) ∙ length-map (take k xs) places_of ∙ length-take-le k xs h

pub judge_tables : (t : Tables) (o : Option Bytes) → Good None t
    → judge (owned o (graph_in t)) ≡ size_fault (names_and o (table_names t)) t.sizes.subgraph t.sizes.translation
unfolding judge count_fault
judge_tables t o g =
    rw (
      names_owned o (graph_in t),
      g.used,
      length_shown (table_names t) t.sizes.subgraph t.subs g.kept.subgraph.within,
      length_shown (table_names t) t.sizes.translation t.trans g.kept.translation.within,
    )

-- the number that tables are judged by, as their own name is absent, long, there or new; with room for one more the last two are the same
module _ (t : Tables) (k : Kept t) where
  abbrev sizes : Sizes
  sizes = t.sizes

  abbrev ns : List Bytes
  ns = table_names t

  abbrev number : Option Bytes → ℕ
  number own = size_fault (names_and own ns) sizes.subgraph sizes.translation

  abbrev counted : ℕ → ℕ → ℕ
  counted n bytes = count_fault n bytes sizes.subgraph sizes.translation

  count_kept : length ns ≡ sizes.names
  count_kept = length_names t.pool sizes.names t.refs k.count

  pub fault_without : number None ≡ counted sizes.names sizes.bytes
  fault_without = rw (k.short, count_kept, ← k.total)

  module _ (own : Bytes) where
    pub fault_long : max_name_bytes < length own → number (Some own) ≡ 11
    fault_long h = rw (any_insert own ns, lt-ltb max_name_bytes (length own) h)

    pub fault_there : (p : ℕ) → Ok p ≡ sought compare_bytes own ns → number (Some own) ≡ counted sizes.names sizes.bytes
    fault_there p h = rw ((found bytes_order [] own ns p h).insert, k.short, count_kept, ← k.total)

    pub fault_new : (p : ℕ) → length own ≤ max_name_bytes → Err p ≡ sought compare_bytes own ns → number (Some own) ≡ counted (sizes.names + 1) (sizes.bytes + length own)
    fault_new p s h =
        let m = missing bytes_order [] own ns p h in
        let short : any_long (insert compare_bytes own ns) ≡ false = any_insert own ns ∙ rw (le-ltb max_name_bytes (length own) s) k.short in
        rw (short, m.insert, length-insert ns p own m.within, length_bodies_inserted own p ns m.within, count_kept, ← k.total)

    pub fault_room : length own ≤ max_name_bytes → sizes.names + 1 ≤ max_names → sizes.bytes + length own ≤ max_bodies_bytes → number (Some own) ≡ counted sizes.names sizes.bytes
    unfolding count_fault
    fault_room s n b = go (sought compare_bytes own ns) refl
      where
        go : (r : Result ℕ ℕ) → r ≡ sought compare_bytes own ns → number (Some own) ≡ counted sizes.names sizes.bytes
        go (Ok p) h = fault_there p h
        go (Err p) h =
            fault_new p s h
            ∙ rw (
              le-ltb max_names (sizes.names + 1) n,
              le-ltb max_names sizes.names (omega arith),
              le-ltb max_bodies_bytes (sizes.bytes + length own) b,
              le-ltb max_bodies_bytes sizes.bytes (omega arith),
            )

-- ------------------------------------------------------------------ what is stored

-- what is over its limit of tables whose names are all used, by their own counts
abbrev counts_fault : Tables → ℕ
counts_fault t = count_fault t.sizes.names t.sizes.bytes t.sizes.subgraph t.sizes.translation

module _ (t : Tables) (own : Option Bytes) (good : Good own t) where
  abbrev g : GraphName
  g = owned own (graph_in t)

  judge_good : judge g ≡ counts_fault t
  unfolding judge count_fault
  judge_good =
      rw (
        good.used,
        good.kept.short,
        length_names t.pool t.sizes.names t.refs good.kept.count,
        ← good.kept.total,
        length_shown (table_names t) t.sizes.subgraph t.subs good.kept.subgraph.within,
        length_shown (table_names t) t.sizes.translation t.trans good.kept.translation.within,
      )

  pub kept_stored : (b : Bytes) → 0 ≡ counts_fault t → kept_or b g ≡ outcome (Ok tt) (encode g)
  kept_stored b e = rw (eq-eqb (judge g) 0 (judge_good ∙ sym e))

  pub kept_refused : (b : Bytes) (e : Fault) → fault_number e ≡ counts_fault t → outcome (Err e) b ≡ kept_or b g
  kept_refused b e f = rw (ne_eqb (judge g) 0 (λ z. no_fault e (f ∙ sym judge_good ∙ z)), judge_good, f)

module _ (t : Tables) (own : ℕ) (r : Complete t own) where
  pub judged_storable : judge (meaning (read_out t own)) ≡ 0 → Storable t own
  judged_storable e =
      let s = judge_sizes (meaning (read_out t own)) e in
      let n = ap length r.used ∙ length_names t.pool t.sizes.names t.refs r.kept.count in
      let b = ap (λ (ns : List Bytes). length (bodies ns)) r.used in
      let ls = length_shown (table_names t) t.sizes.subgraph t.subs r.kept.subgraph.within in
      let lt = length_shown (table_names t) t.sizes.translation t.trans r.kept.translation.within in
      record {
        complete = r;
        sizes = record {
          names = omega (arith, s.count);
          bytes = omega (arith, s.room, r.kept.total);
          subgraph = omega (arith, s.subgraphs);
          translation = omega (arith, s.translations);
        };
      }

-- a pair put in uses its names
owned_pair : (own : Option Bytes) (kind : Kind) (p : Pair) (g : GraphName) → owned own (with_pair kind p g) ≡ with_pair kind p (owned own g)
owned_pair own Subgraph p g = refl
owned_pair own Translation p g = refl

pub good_put : (own : Option Bytes) (kind : Kind) (t u : Tables) (from to : Bytes) → Good own t → PairPut kind t from to u → Good own u
good_put own kind t u from to g put =
    let p : Pair = record { from = from; to = to } in
    record {
      kept = put.kept;
      used =
          ap (λ (x : GraphName). names (owned own x)) put.graph
          ∙ ap names (owned_pair own kind p (graph_in t))
          ∙ names_with_pair kind p (owned own (graph_in t))
          ∙ ap (λ (ns : List Bytes). insert compare_bytes to (insert compare_bytes from ns)) g.used
          ∙ sym put.names;
    }

-- tables whose names are all used are complete with no own name, and with one that was put in
pub complete_without : (t : Tables) → Good None t → Complete t 0
complete_without t g = record { kept = g.kept; own_within = omega arith; used = g.used }

module _ (t u : Tables) (own : Bytes) (p : ℕ) (put : NamePut t own u p) where
  at_place : (p < length (table_names u)) × (name_in (table_names u) p ≡ own)
  at_place = rw (put.names, put.place) (insert_at_lower bytes_order [] own (table_names t))

  pub meaning_own : meaning (read_out u (suc p)) ≡ owned (Some own) (graph_in t)
  meaning_own = rw at_place.1 (ap (owned (Some own)) put.graph)

  pub complete_own : Good None t → Complete u (suc p)
  complete_own good =
      let n = length_names u.pool u.sizes.names u.refs put.kept.count in
      record {
        kept = put.kept;
        own_within = omega (arith, at_place.0);
        used = ap names meaning_own ∙ names_owned (Some own) (graph_in t) ∙ ap (insert compare_bytes own) good.used ∙ sym put.names;
      }

-- a name that is among others is found there
pub among : (own : Bytes) (ns : List Bytes) (r : Result ℕ ℕ) → insert compare_bytes own ns ≡ ns → r ≡ sought compare_bytes own ns → (p : ℕ) × (r ≡ Ok p) × (p < length ns) × (name_in ns p ≡ own)
among own ns (Ok p) e h = let f = found bytes_order [] own ns p h in (p, refl, f.within, f.there)
among own ns (Err p) e h =
    let m = missing bytes_order [] own ns p h in
    let l = length-insert ns p own m.within in
    absurd (omega (arith, ap length (sym m.insert ∙ e)))

-- so are tables among whose names the own name is, with the place where it is found
pub named_among : (t : Tables) (own : Option Bytes) → Good own t → names_and own (table_names t) ≡ table_names t
named_among t None good = refl
named_among t (Some own) good =
    insert_present bytes_order own (table_names t) good.kept.order
    (rw good.used at (own_listed (owned (Some own) (graph_in t)) own (Memᴰ.head refl)))

module _ (t : Tables) (own : Option Bytes) (good : Good own t) where
  module _ (n : ℕ) (within : n ≤ t.sizes.names) (place : own_in (table_names t) n ≡ own) where
    pub meaning_placed : meaning (read_out t n) ≡ owned own (graph_in t)
    meaning_placed = ap (λ (o : Option Bytes). owned o (graph_in t)) place

    complete_placed : Complete t n
    complete_placed = record { kept = good.kept; own_within = within; used = ap names meaning_placed ∙ good.used }

    pub storable_placed : 0 ≡ counts_fault t → Storable t n
    storable_placed e = judged_storable t n complete_placed (ap judge meaning_placed ∙ judge_good t own good ∙ sym e)

-- the ways through `size_fault`: the own name is absent, long, among the names, or one more; or there is room for it either way
pub ruleset faults = (fault_without, fault_long, fault_there, fault_new, fault_room)
