-- The bytes of the form between: they are the encoding's, and what is read at each place of a buffer of given parts.
use mathlib.Core.Path.{◌≡◌, refl, sym, ap, ◌∙◌}
use mathlib.Core.List.{List, ◌++◌, append_assoc}
use Prim.Native.Nat.{ℕ, ◌+◌, ◌-◌, ◌*◌, ◌<◌}
use native.Mathlib.Omega.{arith}
use lib.ListN.{length, drop, replicate, length-append, length-map}
use lib.Seq.{drop-drop, drop_at}
use Rattle.model.specs.Bytes.{Bytes}
use Rattle.model.specs.Numbers.{le16, number}
use Rattle.model.specs.Record.{GraphName, names, bodies}
use Rattle.model.specs.Layout.{counts_length, entry_length, pair_length, entry_at, bodies_after, name_count, own_number, pair_count, record_length, entries, pair_places, own_place, contents, encode, bodies_at}
use Rattle.record.specs.Test.{entries_of, subgraph_of, translation_of, names_of, Under}
use Rattle.record.proofs.Words.{length_le_pairs, pairs_read}
use Rattle.record.proofs.Written.{length_entries}
use Rattle.record.proofs.Entries.{entries_read}
use Rattle.record.proofs.Places.{places_in, le_pairs_places}
use Rattle.record.specs.Coded.{Coded, le_pairs, counts_of, spans, meaning}
use Rattle.record.proofs.Coded.{coded}
use Rattle.model.specs.declared.Kind.TheVariants.{Subgraph, Translation}

-- a buffer of given parts
unfoldable pub parts : ℕ → List Bytes → List (ℕ × ℕ) → List (ℕ × ℕ) → Bytes → Bytes
parts o ns S T X = counts_of (length ns) o (length S) (length T) ++ (entries 0 ns ++ (le_pairs S ++ (le_pairs T ++ X)))

-- how many bytes are in use
abbrev pub size : Coded → ℕ
size c = bodies_after (length c.names) (length c.subgraph + length c.translation) + length (bodies c.names)

-- the bytes of c, with X in the place of the bodies
abbrev pub parts_of : Coded → Bytes → Bytes
parts_of c X = parts c.own c.names c.subgraph c.translation X

abbrev pub ending : Coded → Bytes
ending c = replicate (record_length - size c) 0

unfoldable pub write : Coded → Bytes
write c = parts_of c (bodies c.names ++ ending c)

abbrev pub read : Bytes → Coded
read b = record { names = names_of b; own = own_number b; subgraph = subgraph_of b; translation = translation_of b }

pub length_parts : (o : ℕ) (ns : List Bytes) (S T : List (ℕ × ℕ)) (X : Bytes) → length (parts o ns S T X) ≡ bodies_after (length ns) (length S + length T) + length X
unfolding parts
length_parts o ns S T X = simp (length-append, length_entries, length_le_pairs) (omega arith)

-- ------------------------------------------------------------------ the encoding is these bytes

regroup : (a b c d e f h k : Bytes) → a ++ b ++ c ++ d ++ e ++ f ++ h ++ k ≡ (a ++ (b ++ (c ++ d))) ++ (e ++ (f ++ (h ++ k)))
regroup a b c d e f h k = simp append_assoc

contents_parts : (g : GraphName) → contents g ≡ parts_of (coded g) (bodies (names g))
unfolding contents parts
contents_parts g =
    let ns = names g in
    regroup (le16 (length ns)) (le16 (own_place ns g.name)) (le16 (length g.subgraph)) (le16 (length g.translation))
    (entries 0 ns) (pair_places ns g.subgraph) (pair_places ns g.translation) (bodies ns)
    ∙ rw (
      length-map g.subgraph (places_in ns),
      length-map g.translation (places_in ns),
      le_pairs_places ns g.subgraph,
      le_pairs_places ns g.translation,
    )

parts_append : (o : ℕ) (ns : List Bytes) (S T : List (ℕ × ℕ)) (X Y : Bytes) → parts o ns S T X ++ Y ≡ parts o ns S T (X ++ Y)
unfolding parts
parts_append o ns S T X Y = simp append_assoc

pub encode_write : (g : GraphName) → encode g ≡ write (coded g)
unfolding encode write
encode_write g =
    let c = coded g in
    rw (contents_parts g, length_parts c.own c.names c.subgraph c.translation (bodies c.names))
    (parts_append c.own c.names c.subgraph c.translation (bodies c.names) (ending c))

-- the parts of c one behind the other, and zeros, are the encoding of what c means
pub parts_encode : (c : Coded) (u : ℕ) → coded (meaning c) ≡ c → u ≡ size c
    → counts_of (length c.names) c.own (length c.subgraph) (length c.translation)
    ++ (entries 0 c.names ++ (le_pairs c.subgraph ++ (le_pairs c.translation ++ (bodies c.names ++ replicate (record_length - u) 0))))
    ≡ encode (meaning c)
unfolding write parts
parts_encode c u e d = rw d refl ∙ sym (encode_write (meaning c) ∙ ap write e)

-- ------------------------------------------------------------------ the parts of a buffer

-- what is read at each place of b
pub record Parts (b : Bytes) (o : ℕ) (ns : List Bytes) (S T : List (ℕ × ℕ)) (X : Bytes) : Type 0 where
  pub count : name_count b ≡ length ns
  pub own : own_number b ≡ o
  pub subgraphs : pair_count Subgraph b ≡ length S
  pub translations : pair_count Translation b ≡ length T
  pub entries : entries_of b ≡ spans 0 ns
  pub subgraph : subgraph_of b ≡ S
  pub translation : translation_of b ≡ T
  pub rest : drop (bodies_at b) b ≡ X

module _ (o : ℕ) (ns : List Bytes) (S T : List (ℕ × ℕ)) (X : Bytes) (few : length ns < 65536) (own : o < 65536) (subgraphs : length S < 65536) (translations : length T < 65536) where
  count_parts : number (parts o ns S T X) 0 ≡ length ns
  unfolding parts
  count_parts = omega arith

  own_parts : number (parts o ns S T X) 2 ≡ o
  unfolding parts
  own_parts = omega arith

  subgraphs_parts : number (parts o ns S T X) 4 ≡ length S
  unfolding parts
  subgraphs_parts = omega arith

  translations_parts : number (parts o ns S T X) 6 ≡ length T
  unfolding parts
  translations_parts = omega arith

  drop_head : drop counts_length (parts o ns S T X) ≡ entries 0 ns ++ (le_pairs S ++ (le_pairs T ++ X))
  drop_head = unfold parts in refl

  drop_entries : drop (entry_at (length ns)) (parts o ns S T X) ≡ le_pairs S ++ (le_pairs T ++ X)
  drop_entries =
      rw (
        ← drop-drop (entry_length * length ns) counts_length,
        drop_head,
        drop_at (entries 0 ns) (le_pairs S ++ (le_pairs T ++ X)) (entry_length * length ns) (length_entries 0 ns),
      )

  drop_subgraph : drop (entry_at (length ns) + pair_length * length S) (parts o ns S T X) ≡ le_pairs T ++ X
  drop_subgraph =
      rw (
        ← drop-drop (pair_length * length S) (entry_at (length ns)),
        drop_entries,
        drop_at (le_pairs S) (le_pairs T ++ X) (pair_length * length S) (length_le_pairs S),
      )

  drop_translation : drop (bodies_after (length ns) (length S + length T)) (parts o ns S T X) ≡ X
  drop_translation =
      let e : bodies_after (length ns) (length S + length T) ≡ entry_at (length ns) + pair_length * length S + pair_length * length T = omega arith in
      rw (e, ← drop-drop (pair_length * length T) (entry_at (length ns) + pair_length * length S), drop_subgraph, drop_at (le_pairs T) X (pair_length * length T) (length_le_pairs T))

  pub parts_read : Under 65536 (spans 0 ns) → Under 65536 S → Under 65536 T → Parts (parts o ns S T X) o ns S T X
  parts_read u v w = record {
    count = count_parts;
    own = own_parts;
    subgraphs = subgraphs_parts;
    translations = translations_parts;
    entries = rw (count_parts, drop_head) (entries_read 0 ns (le_pairs S ++ (le_pairs T ++ X)) u);
    subgraph = rw (count_parts, subgraphs_parts, drop_entries) (pairs_read S (le_pairs T ++ X) v);
    translation = rw (count_parts, subgraphs_parts, translations_parts, drop_subgraph) (pairs_read T X w);
    rest = rw (count_parts, subgraphs_parts, translations_parts, drop_translation);
  }
