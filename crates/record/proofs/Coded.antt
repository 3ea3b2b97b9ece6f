-- The form between a graph name and its bytes: each valid graph name has one such form, and each such form that fits is that of
-- its meaning.
use mathlib.Core.Path.{◌≡◌, refl, sym, ap, ◌∙◌}
use mathlib.Core.Logic.{◌⊎◌, inl, inr, ⊎_elim}
use mathlib.Core.Bool.{true, false}
use mathlib.Core.List.Memᴰ
use mathlib.Core.List.{List, [], ◌++◌, map, map-append, Memᴰ}
use Rattle.std.specs.Prelude.{Option, Some, None}
use Prim.Native.Nat.{ℕ, zero, suc, ◌≤◌, ◌<◌}
use native.Mathlib.Omega.{arith}
use lib.ListN.{length, length-map}
use Rattle.model.specs.declared.Kind.TheVariants.{Subgraph, Translation}
use Rattle.model.specs.Bytes.{Bytes, compare_bytes}
use Rattle.model.specs.Record.{Pair, GraphName, compare_pairs, ascends, own_name, pair_names, names, any_long, bodies, max_names, max_pairs, max_bodies_bytes}
use Rattle.model.specs.Statements.{Ascending, Valid}
use Rattle.model.specs.Layout.{place_of, own_place}
use Rattle.text.proofs.Order.{bytes_order}
use Rattle.text.proofs.Ascending.{ascends_true, insert_all_unique}
use Rattle.text.proofs.Places.{get_or_member, member_get_or, member_map, map_member}
use Rattle.record.specs.Test.{pairs_ok, is_used, every, Under}
use Rattle.record.specs.Coded.{Coded, name_in, pair_in, own_in, meaning}
use Rattle.record.proofs.Places.{places_in, flat, place_found, place_of_name, pair_names_in, flat_places, under_member, under_all, ascends_in, places_in_lem, in_places}
use Rattle.record.proofs.TestLaws.{pairs_ok_true, every_true, is_used_true, own_places, used_places}
use Rattle.record.proofs.Names.{all_names, names_ascending, names_members, own_listed, pair_listed}
use Rattle.record.proofs.Sizes.{judge_sizes, sizes_judge}

abbrev coded_by : GraphName → List Bytes → Coded
coded_by g ns = record {
  names = ns;
  own = own_place ns g.name;
  subgraph = map (places_in ns) g.subgraph;
  translation = map (places_in ns) g.translation;
}

abbrev pub coded : GraphName → Coded
coded g = coded_by g (names g)

-- what the test of a buffer asks of it
pub record Fits (c : Coded) : Type 0 where
  pub count : length c.names ≤ max_names
  pub own : c.own ≤ length c.names
  pub subgraphs : length c.subgraph ≤ max_pairs
  pub translations : length c.translation ≤ max_pairs
  pub short : any_long c.names ≡ false
  pub room : length (bodies c.names) ≤ max_bodies_bytes
  pub subgraph : pairs_ok (length c.names) c.subgraph ≡ true
  pub translation : pairs_ok (length c.names) c.translation ≡ true
  pub order : ascends compare_bytes c.names ≡ true
  pub used : every (is_used c.own c.subgraph c.translation) (length c.names) ≡ true

-- ------------------------------------------------------------------ the names that are used

own_name_in : (ns : List Bytes) (own : ℕ) → own_name (own_in ns own) ≡ map (name_in ns) (own_places own)
own_name_in ns zero = refl
own_name_in ns (suc i) = refl

own_places_of : (ns : List Bytes) (name : Option Bytes) → own_places (own_place ns name) ≡ map (λ x. place_of x ns) (own_name name)
own_places_of ns None = refl
own_places_of ns (Some n) = refl

abbrev places_used : Coded → List ℕ
places_used c = used_places c.own c.subgraph c.translation

all_names_meaning : (c : Coded) → all_names (meaning c) ≡ map (name_in c.names) (places_used c)
all_names_meaning c =
    rw (
      map-append (name_in c.names) (own_places c.own ++ flat c.subgraph) (flat c.translation),
      map-append (name_in c.names) (own_places c.own) (flat c.subgraph),
      own_name_in c.names c.own,
      pair_names_in c.names c.subgraph,
      pair_names_in c.names c.translation,
    )

places_used_coded : (g : GraphName) → places_used (coded g) ≡ map (λ x. place_of x (names g)) (all_names g)
places_used_coded g =
    let f : Bytes → ℕ = λ x. place_of x (names g) in
    rw (
      map-append f (own_name g.name ++ pair_names g.subgraph) (pair_names g.translation),
      map-append f (own_name g.name) (pair_names g.subgraph),
      own_places_of (names g) g.name,
      flat_places (names g) g.subgraph,
      flat_places (names g) g.translation,
    )

-- ------------------------------------------------------------------ from a valid graph name

own_in_lem : (ns : List Bytes) (name : Option Bytes) → ((x : Bytes) → Memᴰ x (own_name name) → Memᴰ x ns)
    → (own_in ns (own_place ns name) ≡ name) × (own_place ns name ≤ length ns)
own_in_lem ns None h = (refl, omega arith)
own_in_lem ns (Some n) h = let p = place_found n ns (h n (Memᴰ.head refl)) in (ap Some p.1, p.0)

pub meaning_coded : (g : GraphName) → meaning (coded g) ≡ g
meaning_coded g i = record {
  name = (own_in_lem (names g) g.name (own_listed g)).0 i;
  subgraph = in_places (names g) g.subgraph (pair_listed g Subgraph) i;
  translation = in_places (names g) g.translation (pair_listed g Translation) i;
}

-- pairs of names, ascending, are pairs of places that pass the test
pairs_fit : (ns : List Bytes) (ps : List Pair) → Ascending compare_bytes ns → ((x : Bytes) → Memᴰ x (pair_names ps) → Memᴰ x ns)
    → Ascending compare_pairs ps → pairs_ok (length ns) (map (places_in ns) ps) ≡ true
pairs_fit ns ps a h b =
    let u : Under (length ns) (map (places_in ns) ps) = under_all (length ns) (map (places_in ns) ps) below in
    (pairs_ok_true (length ns) (map (places_in ns) ps)).1
    (u, sym (ascends_in ns (map (places_in ns) ps) a u) ∙ rw (in_places ns ps h) ((ascends_true compare_pairs ps).1 b))
  where
    below : (i : ℕ) → Memᴰ i (flat (map (places_in ns) ps)) → i < length ns
    below i m =
        let r = map_member (λ (x : Bytes). place_of x ns) (pair_names ps) i (rw (flat_places ns ps) at m) in
        rw r.2 (place_found r.0 ns (h r.0 r.1)).0

pub valid_fits : (g : GraphName) → Valid g → Fits (coded g)
valid_fits g v =
    let s = judge_sizes g v.sizes in
    let a = names_ascending g in
    record {
      count = s.count;
      own = (own_in_lem (names g) g.name (own_listed g)).1;
      subgraphs = rw (length-map g.subgraph (places_in (names g))) s.subgraphs;
      translations = rw (length-map g.translation (places_in (names g))) s.translations;
      short = s.short;
      room = s.room;
      subgraph = pairs_fit (names g) g.subgraph a (pair_listed g Subgraph) v.subgraphs;
      translation = pairs_fit (names g) g.translation a (pair_listed g Translation) v.translations;
      order = (ascends_true compare_bytes (names g)).1 a;
      used = (every_true _ (length (names g))).1 (λ i h. (is_used_true _ _ _ i).1 (used i h));
    }
  where
    used : (i : ℕ) → i < length (names g) → Memᴰ i (places_used (coded g))
    used i h =
        let n = name_in (names g) i in
        let m = (names_members g n).0 (get_or_member [] (names g) i h) in
        rw (places_used_coded g)
        (Memᴰ.cast (sym (place_of_name (names g) i (names_ascending g) h)) (member_map (λ (x : Bytes). place_of x (names g)) (all_names g) n m))

-- ------------------------------------------------------------------ from a form

-- places of ascending names that are all used are those of the graph name
pub coded_again : (c : Coded) → names (meaning c) ≡ c.names → Ascending compare_bytes c.names → c.own ≤ length c.names
    → Under (length c.names) c.subgraph → Under (length c.names) c.translation → coded (meaning c) ≡ c
coded_again c e a o s t =
    ap (coded_by (meaning c)) e
    ∙ (λ i. record {
      names = c.names;
      own = own_place_lem c.own o i;
      subgraph = places_in_lem c.names c.subgraph a s i;
      translation = places_in_lem c.names c.translation a t i;
    })
  where
    own_place_lem : (o : ℕ) → o ≤ length c.names → own_place c.names (own_in c.names o) ≡ o
    own_place_lem zero h = refl
    own_place_lem (suc i) h = ap suc (place_of_name c.names i a h)

-- ------------------------------------------------------------------ from a form that fits

module _ (c : Coded) (f : Fits c) where
  ascending : Ascending compare_bytes c.names
  ascending = (ascends_true compare_bytes c.names).0 f.order

  under : (ps : List (ℕ × ℕ)) → pairs_ok (length c.names) ps ≡ true → Under (length c.names) ps
  under ps e = ((pairs_ok_true (length c.names) ps).0 e).0

  used_below : (i : ℕ) → Memᴰ i (places_used c) → i < length c.names
  used_below i m =
      ⊎_elim
      (λ (k : Memᴰ i (own_places c.own ++ flat c.subgraph)).
      ⊎_elim
      (own_below i c.own f.own)
      (under_member _ c.subgraph i (under c.subgraph f.subgraph))
      (Memᴰ.append_cases (own_places c.own) k))
      (under_member _ c.translation i (under c.translation f.translation))
      (Memᴰ.append_cases (own_places c.own ++ flat c.subgraph) m)
    where
      own_below : (i o : ℕ) → o ≤ length c.names → Memᴰ i (own_places o) → i < length c.names
      own_below i zero h m = absurd (Memᴰ.not-nil m)
      own_below i (suc o) h m = rw (Memᴰ.eq_of_singleton m) h

  pub names_meaning : names (meaning c) ≡ c.names
  unfolding names
  names_meaning = insert_all_unique bytes_order (all_names (meaning c)) [] c.names (unfold Ascending in tt) ascending (λ x. (there x, back x))
    where
      there : (x : Bytes) → Memᴰ x c.names → Memᴰ x (all_names (meaning c)) ⊎ Memᴰ x []
      there x m =
          let (i, h, e) = member_get_or [] c.names x m in
          let u = (is_used_true _ _ _ i).0 ((every_true _ (length c.names)).0 f.used i h) in
          inl (Memᴰ.cast (sym e) (rw (all_names_meaning c) (member_map (name_in c.names) (places_used c) i u)))

      back : (x : Bytes) → Memᴰ x (all_names (meaning c)) ⊎ Memᴰ x [] → Memᴰ x c.names
      back x (inl m) =
          let (i, k, e) = map_member (name_in c.names) (places_used c) x (rw (all_names_meaning c) at m) in
          Memᴰ.cast e (get_or_member [] c.names i (used_below i k))
      back x (inr m) = absurd (Memᴰ.not-nil m)

  pub coded_meaning : coded (meaning c) ≡ c
  coded_meaning =
      coded_again c names_meaning ascending f.own (under c.subgraph f.subgraph) (under c.translation f.translation)

  pub meaning_valid : Valid (meaning c)
  meaning_valid = record {
    subgraphs = pairs_ascend c.subgraph f.subgraph;
    translations = pairs_ascend c.translation f.translation;
    sizes = sizes_judge (meaning c) (record {
      short = rw names_meaning f.short;
      count = rw names_meaning f.count;
      subgraphs = rw (length-map c.subgraph (pair_in c.names)) f.subgraphs;
      translations = rw (length-map c.translation (pair_in c.names)) f.translations;
      room = rw names_meaning f.room;
    });
  }
    where
      pairs_ascend : (ps : List (ℕ × ℕ)) → pairs_ok (length c.names) ps ≡ true → Ascending compare_pairs (map (pair_in c.names) ps)
      pairs_ascend ps e =
          let p = (pairs_ok_true (length c.names) ps).0 e in
          (ascends_true compare_pairs (map (pair_in c.names) ps)).0 (ascends_in c.names ps ascending p.0 ∙ p.1)
