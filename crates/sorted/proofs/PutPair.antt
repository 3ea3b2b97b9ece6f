-- A pair put into the tables: its two names first, then the number of their places.
use mathlib.Core.Path.{◌≡◌, refl, sym, ap, ◌∙◌}
use mathlib.Core.Logic.{◌⊎◌, inl, inr, ⊎_elim}
use mathlib.Core.List.{List, [], ◌∷◌, map, Memᴰ}
use Rattle.std.specs.Prelude.{Result, Ok, Err, None}
use Rattle.std.specs.List.{insert as inserted}
use Rattle.std.proofs.lemmas.List.Edits.{length-insert}
use Prim.Native.Nat.{ℕ, suc, ◌+◌, ◌*◌, ◌/◌, ◌%◌, ◌≤◌, ◌<◌}
use native.Mathlib.Omega.{arith}
use lib.ListN.{length, take, get_or}
use borrow.Author.Tests.{eq-eqb, ne_eqb}
use Rattle.std.specs.declared.cmp.Ordering.{Ordering}
use Rattle.std.specs.declared.cmp.Ordering.TheVariants.{Less, Equal, Greater}
use Rattle.model.specs.declared.Kind.{Kind}
use Rattle.model.specs.declared.Kind.TheVariants.{Subgraph, Translation}
use Rattle.model.specs.Bytes.{Bytes, by_order, then_by, compare_numbers, compare_bytes}
use Rattle.model.specs.Record.{Pair, compare_pairs, insert, with_pair}
use Rattle.model.specs.Statements.{Ascending}
use Rattle.record.specs.Test.{Under}
use Rattle.record.specs.Coded.{name_in, pair_in}
use Rattle.record.proofs.Places.{compare_places, under_pair}
use Rattle.text.proofs.Order.{StrictOrder, opposite, numbers_order, bytes_order, less_numbers, equal_numbers, greater_numbers, compared_numbers}
use Rattle.text.proofs.Ascending.{insert_ascending, insert_member}
use Rattle.text.proofs.Places.{ascending_places}
use Rattle.sorted.specs.Sorted.{lower, sought, place_after}
use Rattle.sorted.specs.Tables.{Tables, tables, table_names, graph_in, places_of, pairs_in, KeptPairs, NamePut, PairPut}
use Rattle.sorted.proofs.Bodies.{first_of, second_of}
use Rattle.sorted.proofs.Lower.{lower_le, found, missing}
use Rattle.sorted.proofs.Renumber.{Small, above_le, small_member, name_raised}
use Rattle.sorted.proofs.Search.{length_names}
use Rattle.sorted.proofs.Pairs.{insert_map}

-- ------------------------------------------------------------------ the places of the names

-- a name that was put in stands at its place
module _ {A : Type 0} {cmp : A → A → Ordering} (ord : StrictOrder cmp) (d x : A) where
  pub insert_at_lower : (ys : List A) → (lower cmp x ys < length (insert cmp x ys)) × (get_or (insert cmp x ys) (lower cmp x ys) d ≡ x)
  unfolding insert lower
  insert_at_lower [] = (omega arith, refl)
  insert_at_lower (y ∷ ys) = rw (ord.flip x y) (go (cmp x y) refl (insert_at_lower ys))
    where
      go : (o : Ordering) → cmp x y ≡ o → (lower cmp x ys < length (insert cmp x ys)) × (get_or (insert cmp x ys) (lower cmp x ys) d ≡ x)
          → (by_order (opposite o) (suc (lower cmp x ys)) 0 0 < length (by_order o (x ∷ y ∷ ys) (y ∷ ys) (y ∷ insert cmp x ys)))
          × (get_or (by_order o (x ∷ y ∷ ys) (y ∷ ys) (y ∷ insert cmp x ys)) (by_order (opposite o) (suc (lower cmp x ys)) 0 0) d ≡ x)
      go Less e r = (omega arith, refl)
      go Equal e r = (omega arith, sym (ord.same x y e))
      go Greater e r = (omega arith, r.1)

-- the names with one more: as many as before, or one more
grown_or_not : (name : Bytes) (ns : List Bytes)
    → (insert compare_bytes name ns ≡ ns) ⊎ (insert compare_bytes name ns ≡ inserted ns (lower compare_bytes name ns) name)
grown_or_not name ns = go (sought compare_bytes name ns) refl
  where
    go : (r : Result ℕ ℕ) → r ≡ sought compare_bytes name ns → (insert compare_bytes name ns ≡ ns) ⊎ (insert compare_bytes name ns ≡ inserted ns (lower compare_bytes name ns) name)
    go (Ok p) e = inl (found bytes_order [] name ns p e).insert
    go (Err p) e = let m = missing bytes_order [] name ns p e in inr (rw m.place at m.insert)

-- another name's place after that
pub place_after_lem : (name : Bytes) (ns : List Bytes) (i : ℕ) → Ascending compare_bytes ns → i < length ns
    → (place_after (length ns) (length (insert compare_bytes name ns)) (lower compare_bytes name ns) i < length (insert compare_bytes name ns))
    × (name_in (insert compare_bytes name ns) (place_after (length ns) (length (insert compare_bytes name ns)) (lower compare_bytes name ns) i) ≡ name_in ns i)
place_after_lem name ns i a h = ⊎_elim same more (grown_or_not name ns)
  where
    same : insert compare_bytes name ns ≡ ns
        → (place_after (length ns) (length (insert compare_bytes name ns)) (lower compare_bytes name ns) i < length (insert compare_bytes name ns))
        × (name_in (insert compare_bytes name ns) (place_after (length ns) (length (insert compare_bytes name ns)) (lower compare_bytes name ns) i) ≡ name_in ns i)
    same e = rw (e, eq-eqb (length ns) (length ns) refl) (h, refl)

    more : insert compare_bytes name ns ≡ inserted ns (lower compare_bytes name ns) name
        → (place_after (length ns) (length (insert compare_bytes name ns)) (lower compare_bytes name ns) i < length (insert compare_bytes name ns))
        × (name_in (insert compare_bytes name ns) (place_after (length ns) (length (insert compare_bytes name ns)) (lower compare_bytes name ns) i) ≡ name_in ns i)
    more e =
        let l = lower_le compare_bytes name ns in
        let u = above_le (lower compare_bytes name ns) i in
        rw (e, length-insert ns (lower compare_bytes name ns) name l, ne_eqb (length ns) (length ns + 1) (λ d. omega arith))
        (omega arith, name_raised name (lower compare_bytes name ns) ns i l)

same_after : (i : ℕ) {m n p m' n' p' : ℕ} → m ≡ m' → n ≡ n' → p ≡ p' → place_after m n p i ≡ place_after m' n' p' i
same_after i d e f = rw (d, e, f)

-- ------------------------------------------------------------------ the number of a pair

under_members : (n : ℕ) (xs : List ℕ) → ((x : ℕ) → Memᴰ x xs → Small n x) → Under n (map places_of xs)
unfolding Under
under_members n [] h = tt
under_members n (x ∷ xs) h = let s = h x (Memᴰ.head refl) in (s.0, s.1, under_members n xs (λ y m. h y (Memᴰ.tail m)))

-- numbers compare as their places do
pub compare_places_lem : (x y : ℕ) → compare_places (places_of x) (places_of y) ≡ compare_numbers x y
unfolding compare_places
compare_places_lem x y = go (compare_numbers (x / 65536) (y / 65536)) refl (compared_numbers (x / 65536) (y / 65536))
  where
    low : (o : Ordering) → compare_numbers (x % 65536) (y % 65536) ≡ o → by_order (compare_numbers (x % 65536) (y % 65536)) (x % 65536 < y % 65536) (x % 65536 ≡ y % 65536) (y % 65536 < x % 65536)
        → x / 65536 ≡ y / 65536 → o ≡ compare_numbers x y
    low Less e c q = let h : x % 65536 < y % 65536 = rw e at c in sym (less_numbers x y (omega arith))
    low Equal e c q = let h : x % 65536 ≡ y % 65536 = rw e at c in let z : x ≡ y = omega arith in sym (rw z (equal_numbers y))
    low Greater e c q = let h : y % 65536 < x % 65536 = rw e at c in sym (greater_numbers x y (omega arith))

    go : (o : Ordering) → compare_numbers (x / 65536) (y / 65536) ≡ o → by_order (compare_numbers (x / 65536) (y / 65536)) (x / 65536 < y / 65536) (x / 65536 ≡ y / 65536) (y / 65536 < x / 65536)
        → then_by o (compare_numbers (x % 65536) (y % 65536)) ≡ compare_numbers x y
    go Less e c = let h : x / 65536 < y / 65536 = rw e at c in sym (less_numbers x y (omega arith))
    go Equal e c = low (compare_numbers (x % 65536) (y % 65536)) refl (compared_numbers (x % 65536) (y % 65536)) (rw e at c)
    go Greater e c = let h : y / 65536 < x / 65536 = rw e at c in sym (greater_numbers x y (omega arith))

compare_pairs_lem : (ns : List Bytes) (p q : ℕ × ℕ) → Ascending compare_bytes ns → (p.0 < length ns) × (p.1 < length ns) → (q.0 < length ns) × (q.1 < length ns)
    → compare_pairs (pair_in ns p) (pair_in ns q) ≡ compare_places p q
unfolding compare_pairs compare_places
compare_pairs_lem ns p q a s t = rw (ascending_places bytes_order [] ns p.0 q.0 a s.0 t.0, ascending_places bytes_order [] ns p.1 q.1 a s.1 t.1)

-- a number put into the table of its kind
module _ (ns : List Bytes) (k v r : ℕ) (xs ys : List ℕ) (asc : Ascending compare_bytes ns) (pairs : KeptPairs (length ns) k xs) (small : Small (length ns) v)
    (put : take r ys ≡ insert compare_numbers v (take k xs)) (within : r ≤ length ys) where
  number_kept : KeptPairs (length ns) r ys
  number_kept = record {
    order = rw put (insert_ascending numbers_order v (take k xs) pairs.order);
    under = rw put (under_members (length ns) (insert compare_numbers v (take k xs)) (λ x m.
        ⊎_elim (λ (e : x ≡ v). rw e small) (small_member (length ns) (take k xs) x pairs.under) (insert_member compare_numbers v (take k xs) x m)));
    within = within;
  }

  number_shown : map (pair_in ns) (pairs_in r ys) ≡ insert compare_pairs (pair_in ns (places_of v)) (map (pair_in ns) (pairs_in k xs))
  number_shown =
      rw (put, insert_map compare_numbers compare_places places_of v (take k xs) (λ y m. compare_places_lem v y))
      (insert_map compare_places compare_pairs (pair_in ns) (places_of v) (pairs_in k xs) (λ q m.
      compare_pairs_lem ns (places_of v) q asc small (under_pair (length ns) (pairs_in k xs) q pairs.under m)))

-- ------------------------------------------------------------------ the tables

-- with both names in
module _ (t u w : Tables) (from to : Bytes) (a b x : ℕ) (first : NamePut t from u a) (second : NamePut u to w b)
    (moved : x ≡ place_after u.sizes.names w.sizes.names b a) where
  abbrev ns : List Bytes
  ns = table_names w

  count_first : length (table_names u) ≡ u.sizes.names
  count_first = length_names u.pool u.sizes.names u.refs first.kept.count

  pub count_second : length ns ≡ w.sizes.names
  count_second = length_names w.pool w.sizes.names w.refs second.kept.count

  to_place : (b < length ns) × (name_in ns b ≡ to)
  to_place = rw (second.names, second.place) (insert_at_lower bytes_order [] to (table_names u))

  from_first : (a < length (table_names u)) × (name_in (table_names u) a ≡ from)
  from_first = rw (first.names, first.place) (insert_at_lower bytes_order [] from (table_names t))

  from_place : (x < length ns) × (name_in ns x ≡ from)
  from_place =
      let (h, e) = from_first in
      let r = place_after_lem to (table_names u) a first.kept.order h in
      let m : x ≡ place_after (length (table_names u)) (length (insert compare_bytes to (table_names u))) (lower compare_bytes to (table_names u)) a =
      moved ∙ same_after a (sym count_first) (sym count_second ∙ ap length second.names) second.place in
      rw (second.names, m) (r.0, r.1 ∙ e)

  pub first_small : a < 65536
  first_small = let n = count_first in omega (arith, from_first.0, first.kept.count, first.kept.few)

  pub places_small : (x < w.sizes.names) × (b < w.sizes.names) × (w.sizes.names < 65536)
  places_small =
      let n = count_second in
      let f = from_place.0 in
      let g = to_place.0 in
      (omega arith, omega arith, omega (arith, second.kept.count, second.kept.few))

  pair_of : pair_in ns (places_of (x * 65536 + b)) ≡ record { from = from; to = to }
  pair_of =
      let s = places_small in
      let h : b < 65536 = omega arith in
      rw (first_of x b h, second_of x b h) (λ i. record { from = from_place.1 i; to = to_place.1 i })

  small : Small (length ns) (x * 65536 + b)
  small = let s = places_small in let n = count_second in (omega arith, omega arith)

  graph_same : graph_in w ≡ graph_in t
  graph_same = second.graph ∙ first.graph

  names_both : table_names w ≡ insert compare_bytes to (insert compare_bytes from (table_names t))
  names_both = second.names ∙ ap (insert compare_bytes to) first.names

  -- the pairs of both kinds, with the graph name that they show
  with_pairs : (kind : Kind) (s m : ℕ) (ss ms : List ℕ) → KeptPairs w.sizes.names s ss → KeptPairs w.sizes.names m ms
      → graph_in (tables w.refs ss ms w.pool (record { names = w.sizes.names; bytes = w.sizes.bytes; subgraph = s; translation = m }))
      ≡ with_pair kind (record { from = from; to = to }) (graph_in w)
      → PairPut kind t from to (tables w.refs ss ms w.pool (record { names = w.sizes.names; bytes = w.sizes.bytes; subgraph = s; translation = m }))
  with_pairs kind s m ss ms ks km e =
      let k = second.kept in
      record {
        kept = record {
          order = k.order;
          short = k.short;
          within = k.within;
          total = k.total;
          count = k.count;
          room = k.room;
          few = k.few;
          small = k.small;
          subgraph = ks;
          translation = km;
        };
        names = names_both;
        graph = e ∙ ap (with_pair kind (record { from = from; to = to })) graph_same;
      }

  -- the number put into the table of one kind
  module _ (k r : ℕ) (xs ys : List ℕ) (pairs : KeptPairs w.sizes.names k xs) (put : take r ys ≡ insert compare_numbers (x * 65536 + b) (take k xs)) (within : r ≤ length ys) where
    put_kept : KeptPairs w.sizes.names r ys
    put_kept =
        rw count_second at
        (number_kept ns k (x * 65536 + b) r xs ys second.kept.order (rw (← count_second) at pairs) small put within)

    put_shown : map (pair_in ns) (pairs_in r ys) ≡ insert compare_pairs (record { from = from; to = to }) (map (pair_in ns) (pairs_in k xs))
    put_shown =
        number_shown ns k (x * 65536 + b) r xs ys second.kept.order (rw (← count_second) at pairs) small put within ∙ rw pair_of

  pub subgraph_put : (kind : Kind) → kind ≡ Subgraph → (r : ℕ) (ys : List ℕ)
      → take r ys ≡ insert compare_numbers (x * 65536 + b) (take w.sizes.subgraph w.subs) → r ≤ length ys
      → PairPut kind t from to
      (tables w.refs ys w.trans w.pool (record { names = w.sizes.names; bytes = w.sizes.bytes; subgraph = r; translation = w.sizes.translation }))
  subgraph_put kind e r ys put h =
      let k = second.kept in
      rw e
      (with_pairs Subgraph r w.sizes.translation ys w.trans (put_kept w.sizes.subgraph r w.subs ys k.subgraph put h) k.translation
      (ap (λ (ps : List Pair). record { name = None; subgraph = ps; translation = (graph_in w).translation })
      (put_shown w.sizes.subgraph r w.subs ys k.subgraph put h)))

  pub translation_put : (kind : Kind) → kind ≡ Translation → (r : ℕ) (ys : List ℕ)
      → take r ys ≡ insert compare_numbers (x * 65536 + b) (take w.sizes.translation w.trans) → r ≤ length ys
      → PairPut kind t from to
      (tables w.refs w.subs ys w.pool (record { names = w.sizes.names; bytes = w.sizes.bytes; subgraph = w.sizes.subgraph; translation = r }))
  translation_put kind e r ys put h =
      let k = second.kept in
      rw e
      (with_pairs Translation w.sizes.subgraph r w.subs ys k.subgraph (put_kept w.sizes.translation r w.trans ys k.translation put h)
      (ap (λ (ps : List Pair). record { name = None; subgraph = (graph_in w).subgraph; translation = ps })
      (put_shown w.sizes.translation r w.trans ys k.translation put h)))
