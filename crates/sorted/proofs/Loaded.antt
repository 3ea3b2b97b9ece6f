-- A record copied into tables: entries and pairs are the same numbers, and the bodies in the pool are cut as in the record.
use mathlib.Core.Path.{◌≡◌, refl, sym, ap, ap₂, ◌∙◌}
use mathlib.Core.Logic.{⊎_elim}
use mathlib.Core.Bool.{true}
use mathlib.Core.List.Memᴰ
use mathlib.Core.List.{List, [], ◌∷◌, ◌++◌, map, map-append, map-map, Memᴰ, append_assoc, append-nil}
use Rattle.std.specs.Prelude.{None}
use Prim.Native.Nat.{ℕ, zero, suc, ◌+◌, ◌-◌, ◌*◌, ◌/◌, ◌%◌, ◌≤◌, ◌<◌}
use native.Mathlib.Omega.{arith}
use native.Mathlib.Nat.{zero-add}
use lib.ListN.{length, take, drop, get_or, length-append, length-drop, length-map}
use Rattle.std.proofs.Math.Seq.{take-length}
use lib.Seq.{take-append_seam, drop-append_seam}
use Rattle.model.specs.Bytes.{Bytes, compare_numbers, compare_bytes}
use Rattle.model.specs.Record.{GraphName, names, bodies}
use Rattle.model.specs.Layout.{counts_length, entry_length, pair_length, table_at, body_start, body_length, name_count, pair_count, shown, decode, bodies_at}
use Rattle.model.specs.declared.Kind.{Kind}
use Rattle.model.specs.declared.Kind.TheVariants.{Subgraph, Translation}
use Rattle.model.specs.Opening.{is_some}
use Rattle.record.specs.Test.{pairs_ok, entries_of, subgraph_of, translation_of, names_of}
use Rattle.record.specs.Coded.{spans, pair_in}
use Rattle.record.proofs.Words.{length_rows_at, get_or_rows_at}
use Rattle.record.proofs.Entries.{Cut, cut_holds}
use Rattle.record.proofs.Held.{Held}
use Rattle.record.proofs.Places.{compare_places}
use Rattle.record.proofs.TestLaws.{pairs_ok_true}
use Rattle.record.proofs.ReadWrite.{length_names}
use Rattle.record.proofs.Shown.{shown_meaning}
use Rattle.text.proofs.Ascending.{ascends_true}
use Rattle.text.proofs.Places.{ascends_map, member_map}
use Rattle.sorted.specs.Tables.{Tables, holding, body_in, table_names, graph_in, places_of, pairs_in, KeptPairs}
use Rattle.sorted.specs.Loading.{pairs_of_kind, sizes_of, owned, Loaded}
use Rattle.sorted.proofs.Bodies.{first_of, second_of}
use Rattle.sorted.proofs.PutPair.{compare_places_lem}
use Rattle.sorted.proofs.Records.{is_held, sizes_limited, shown_names, shown_count, pairs_counted}

-- ------------------------------------------------------------------ pairs of numbers

-- one more row taken, as one number
pub numbers_turn : {rows rest all : List (ℕ × ℕ)} {x y : ℕ} (a : List ℕ) → rows ≡ (x, y) ∷ rest → y < 65536
    → map places_of a ++ rows ≡ all → map places_of (a ++ (x * 65536 + y) ∷ []) ++ rest ≡ all
numbers_turn {rows} {rest} {all} {x} {y} a e s f =
    rw (map-append places_of a ((x * 65536 + y) ∷ []), first_of x y s, second_of x y s, append_assoc) (rw e at f)

-- an entry, as a record's bytes have it
pub entry_read : (b : Bytes) (i : ℕ) → i < name_count b → get_or (entries_of b) i (0, 0) ≡ (body_start b i, body_length b i)
entry_read b i h = get_or_rows_at entry_length (name_count b) counts_length b i h

pub length_entries_of : (b : Bytes) → length (entries_of b) ≡ name_count b
length_entries_of b = length_rows_at entry_length (name_count b) (drop counts_length b)

pub length_pairs_of : (k : Kind) (b : Bytes) → length (pairs_of_kind k b) ≡ pair_count k b
length_pairs_of k b = length_rows_at pair_length (pair_count k b) (drop (table_at k b) b)

-- ------------------------------------------------------------------ bodies

-- the body at an entry's place
abbrev body_at : Bytes → ℕ × ℕ → Bytes
body_at pool e = take e.1 (drop e.0 pool)

pub spans_bodies : (pre rest : Bytes) (ns : List Bytes) → map (body_at (pre ++ bodies ns ++ rest)) (spans (length pre) ns) ≡ ns
unfolding spans
spans_bodies pre rest [] = refl
spans_bodies pre rest (n ∷ ns) = ap₂ (λ (x : Bytes) (xs : List Bytes). x ∷ xs) first (others (spans_bodies (pre ++ n) rest ns))
  where
    whole : pre ++ (n ++ bodies ns) ++ rest ≡ pre ++ n ++ bodies ns ++ rest
    whole = simp append_assoc

    split : pre ++ (n ++ bodies ns) ++ rest ≡ pre ++ (n ++ (bodies ns ++ rest))
    split = simp append_assoc

    first : body_at (pre ++ (n ++ bodies ns) ++ rest) (length pre, length n) ≡ n
    first = rw (split, drop-append_seam pre (n ++ (bodies ns ++ rest))) (take-append_seam n (bodies ns ++ rest))

    others : map (body_at ((pre ++ n) ++ bodies ns ++ rest)) (spans (length (pre ++ n)) ns) ≡ ns
        → map (body_at (pre ++ (n ++ bodies ns) ++ rest)) (spans (length pre + length n) ns) ≡ ns
    others e = rw (whole, ← length-append pre n) e

-- where the entries' bodies end
pub spans_within : (start : ℕ) (ns : List Bytes) (e : ℕ × ℕ) → Memᴰ e (spans start ns) → e.0 + e.1 ≤ start + length (bodies ns)
unfolding spans
spans_within start [] e m = absurd (Memᴰ.not-nil m)
spans_within start (n ∷ ns) e m =
    let l = length-append n (bodies ns) in
    ⊎_elim
    (λ (d : e ≡ (start, length n)). rw d (omega arith))
    (λ (k : Memᴰ e (spans (start + length n) ns)). omega (arith, spans_within (start + length n) ns e k))
    (Memᴰ.cases_cons m)

no_bodies : (ns : List Bytes) → length ns ≡ 0 → length (bodies ns) ≡ 0
no_bodies [] h = refl
no_bodies (n ∷ ns) h = absurd (omega arith)

-- and the last one's end is the end of all
pub spans_last : (start : ℕ) (ns : List Bytes) (i : ℕ) → length ns ≡ suc i → (get_or (spans start ns) i (0, 0)).0 + (get_or (spans start ns) i (0, 0)).1 ≡ start + length (bodies ns)
unfolding spans
spans_last start [] i h = absurd (omega arith)
spans_last start (n ∷ []) zero h = let l = length-append n [] in omega arith
spans_last start (n ∷ []) (suc i) h = absurd (omega arith)
spans_last start (n ∷ m ∷ ns) zero h = absurd (omega arith)
spans_last start (n ∷ m ∷ ns) (suc i) h =
    let l = length-append n (bodies (m ∷ ns)) in
    spans_last (start + length n) (m ∷ ns) i (omega arith) ∙ omega arith

-- ------------------------------------------------------------------ a record

module _ (b : Bytes) (v : is_some (decode b) ≡ true) where
  abbrev ns : List Bytes
  ns = names_of b

  held : Held b
  held = is_held b v

  cut_names : Cut (entries_of b) 0 (drop (bodies_at b) b)
  cut_names = cut_holds (entries_of b) 0 (drop (bodies_at b) b) held.row (rw length-drop (omega (arith, held.long, held.count, held.subgraphs, held.translations)))

  pub taken_bodies : take (length (bodies ns)) (drop (bodies_at b) b) ≡ bodies ns
  taken_bodies = ap (take (length (bodies ns))) (sym cut_names.whole) ∙ take-append_seam (bodies ns) _

  -- the bodies end where the last one does
  pub last_end : (n : ℕ) → n ≡ name_count b → (n ≡ 0 → ⊥) → body_start b (n - 1) + body_length b (n - 1) ≡ length (bodies ns)
  last_end n e z =
      let l : length ns ≡ suc (n - 1) = length_names b held ∙ omega arith in
      let d : get_or (spans 0 ns) (n - 1) (0, 0) ≡ (body_start b (n - 1), body_length b (n - 1)) =
      ap (λ (es : List (ℕ × ℕ)). get_or es (n - 1) (0, 0)) cut_names.entries ∙ entry_read b (n - 1) (omega arith) in
      rw d at (spans_last 0 ns (n - 1) l) ∙ zero-add (length (bodies ns))

  pub none_end : name_count b ≡ 0 → length (bodies ns) ≡ 0
  none_end e = no_bodies ns (length_names b held ∙ e)

  kept_pairs : (k : ℕ) (xs : List ℕ) (ps : List (ℕ × ℕ)) → pairs_ok (name_count b) ps ≡ true → k ≤ length xs → pairs_in k xs ≡ ps → KeptPairs (name_count b) k xs
  kept_pairs k xs ps ok h e =
      let (under, order) = (pairs_ok_true (name_count b) ps).0 ok in
      record {
        order = (ascends_true compare_numbers (take k xs)).0 (sym (ascends_map compare_numbers compare_places places_of (take k xs) (λ x y m n. compare_places_lem x y)) ∙ rw e order);
        under = rw e under;
        within = h;
      }

  module _ (refs subs trans : List ℕ) (pool : Bytes) (entries : map places_of refs ≡ entries_of b)
      (subgraphs : map places_of subs ≡ subgraph_of b) (translations : map places_of trans ≡ translation_of b) (taken : pool ≡ bodies ns) where
    names_loaded : map (body_in pool) refs ≡ ns
    names_loaded =
        sym (map-map (body_at pool) places_of refs) ∙ ap (map (body_at pool)) (entries ∙ sym cut_names.entries)
        ∙ ap (λ (x : Bytes). map (body_at x) (spans 0 ns)) (taken ∙ sym (append-nil _))
        ∙ spans_bodies [] [] ns

    inside : (r : ℕ) → Memᴰ r refs → r / 65536 + r % 65536 ≤ length (bodies ns)
    inside r m = omega (arith, spans_within 0 ns (places_of r) (rw (entries ∙ sym cut_names.entries) at (member_map places_of refs r m)))

    abbrev u : Tables
    u = holding refs subs trans pool

    count_refs : length refs ≡ name_count b
    count_refs = sym (length-map refs places_of) ∙ ap length entries ∙ length_entries_of b

    count_subs : length subs ≡ pair_count Subgraph b
    count_subs = sym (length-map subs places_of) ∙ ap length subgraphs ∙ length_pairs_of Subgraph b

    count_trans : length trans ≡ pair_count Translation b
    count_trans = sym (length-map trans places_of) ∙ ap length translations ∙ length_pairs_of Translation b

    sizes_loaded : u.sizes ≡ sizes_of (shown b)
    sizes_loaded = λ i. record {
      names = (count_refs ∙ sym (shown_count b v)) i;
      bytes = (ap length taken ∙ ap (λ (xs : List Bytes). length (bodies xs)) (sym (shown_names b v))) i;
      subgraph = (count_subs ∙ sym (pairs_counted b v Subgraph)) i;
      translation = (count_trans ∙ sym (pairs_counted b v Translation)) i;
    }

    table_names_lem : table_names u ≡ ns
    table_names_lem = rw (take-length refs) names_loaded

    table_subgraphs : pairs_in (length subs) subs ≡ subgraph_of b
    table_subgraphs = rw (take-length subs) subgraphs

    table_translations : pairs_in (length trans) trans ≡ translation_of b
    table_translations = rw (take-length trans) translations

    graph : graph_in u ≡ owned None (shown b)
    graph =
        (λ i. record { name = None; subgraph = map (pair_in (table_names_lem i)) (table_subgraphs i); translation = map (pair_in (table_names_lem i)) (table_translations i) })
        ∙ sym (ap (owned None) (shown_meaning b held))

    pub loaded : Loaded (shown b) u
    loaded = record {
      good = record {
        kept = record {
          order = rw table_names_lem ((ascends_true compare_bytes ns).0 held.order);
          short = rw table_names_lem cut_names.short;
          within = rw (take-length refs, taken) inside;
          total = rw table_names_lem (ap length taken);
          count = omega arith;
          room = omega arith;
          few = let l = sizes_limited b v in omega (arith, count_refs, held.count);
          small = let l = sizes_limited b v in omega (arith, l.bytes, ap length taken, ap (λ (xs : List Bytes). length (bodies xs)) (shown_names b v));
          subgraph = rw count_refs (kept_pairs (length subs) subs (subgraph_of b) held.subgraph (omega arith) table_subgraphs);
          translation = rw count_refs (kept_pairs (length trans) trans (translation_of b) held.translation (omega arith) table_translations);
        };
        used = ap (λ (g : GraphName). names (owned (shown b).name g)) graph ∙ shown_names b v ∙ sym table_names_lem;
      };
      graph = graph;
      sizes = sizes_loaded;
    }
