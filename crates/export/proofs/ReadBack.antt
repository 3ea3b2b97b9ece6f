-- What is written reads back as the same record: both texts by the lines of their formats, tags by their relations.
use mathlib.Core.Path.{◌≡◌, refl, ap, ◌∙◌}
use mathlib.Core.Logic.{inl, inr, ◌≢◌}
use mathlib.Core.Bool.{true}
use mathlib.Core.List.Memᴰ
use mathlib.Core.List.{List, [], ◌∷◌, ◌++◌, append-nil, Memᴰ}
use Rattle.std.specs.Prelude.{Option, Some, None}
use Prim.Native.Nat.{ℕ, suc, ◌+◌}
use native.Mathlib.Omega.{arith}
use lib.Dec.{leb}
use lib.ListN.{length}
use lib.Seq.{append_snoc}
use borrow.Author.Tests.{le-leb}
use Rattle.model.specs.declared.Kind.TheVariants.{Subgraph, Translation}
use Rattle.model.specs.Text.{text}
use Rattle.model.specs.Bytes.{Bytes, same_bytes, compare_bytes, compare_numbers, split, index_of}
use Rattle.model.specs.Record.{Pair, GraphName, empty, with_name}
use Rattle.model.specs.Reading.{done, typed_field, gaf_line, one_name, or_wrong, two_parts, tag_relations, tag_value, name_value, from_tags}
use Rattle.model.specs.Writing.{to_gaf_header_lines, to_gfa_header_lines, more_relations, relations_tag}
use Rattle.model.specs.Statements.{Without, GafReadsBack, GfaReadsBack, TagsReadBack}
use Rattle.export.proofs.Parts.{without_cons, without_append, absent, split_part, split_whole, split_two, two_parts_lem, comma_pair}
use Rattle.export.proofs.Sizes.{own_named, pair_named}
use Rattle.export.proofs.Adding.{Adds, adds_subgraphs, adds_translations, name_alone}
use Rattle.export.proofs.Lines.{pair_line, AddsLine, gaf_takes, gfa_takes, lines_read_back}

-- ------------------------------------------------------------------ GAF

abbrev Plain : Bytes → Type 0
Plain n = (n ≢ []) × Without 9 n × Without 10 n

-- `@`, two letters, and a pair between tabs
module _ (x y number : ℕ) {add : GraphName → Option Pair → Option GraphName}
    (kind : (g : GraphName) (fs : List Bytes) → gaf_line g (64 ∷ x ∷ y ∷ []) fs ≡ or_wrong number (add g (two_parts fs)))
    (tab : Without 9 (64 ∷ x ∷ y ∷ [])) (newline : Without 10 (64 ∷ x ∷ y ∷ 9 ∷ [])) where
  gaf_adds : (p : Pair) → Plain p.from → Plain p.to → AddsLine add p (pair_line (64 ∷ x ∷ y ∷ 9 ∷ []) 9 p)
  gaf_adds p a b = record {
    whole = without_append _ _ (without_append _ _ newline a.2) (without_cons 9 p.to (λ e. omega arith) b.2);
    takes = λ g k e.
        gaf_takes x y (p.from ++ (9 ∷ p.to)) p.from (p.to ∷ []) g k tab (split_two 9 p.from p.to a.1 b.1)
        (kind g _ ∙ rw (two_parts_lem p a.0 b.0) (e number));
  }

one_name_lem : (g : GraphName) (n : Bytes) → n ≢ [] → one_name g (n ∷ []) ≡ Some (with_name n g)
one_name_lem g [] m = absurd (m refl)
one_name_lem g (x ∷ xs) m = refl

pub gaf_reads_back : GafReadsBack
unfolding to_gaf_header_lines gaf_line same_bytes compare_bytes compare_numbers index_of
gaf_reads_back g v plain =
    lines_read_back (text "@RN\t") (text "@SG\t") (text "@TL\t") 9 g v
    (λ n e.
    let a = plain n (own_named g n e) in
    record {
      whole = without_append (text "@RN\t") n (absent 10 _ refl) a.2;
      takes =
          gaf_takes 82 78 n n [] empty (with_name n empty) (absent 9 _ refl) (split_whole 9 n a.1)
          (rw (one_name_lem empty n a.0) (name_alone g v n e));
    })
    (λ p m.
    let named = pair_named g Subgraph p m in
    gaf_adds 83 71 7 (λ h fs. refl) (absent 9 _ refl) (absent 10 _ refl) p (plain _ named.0) (plain _ named.1))
    (λ p m.
    let named = pair_named g Translation p m in
    gaf_adds 84 76 8 (λ h fs. refl) (absent 9 _ refl) (absent 10 _ refl) p (plain _ named.0) (plain _ named.1))

-- ------------------------------------------------------------------ GFA

-- two letters, `:Z:`, and a pair round a comma
module _ (x y number : ℕ) {add : GraphName → Option Pair → Option GraphName}
    (kind : (g : GraphName) (v : Bytes) → typed_field g (x ∷ y ∷ 58 ∷ 90 ∷ 58 ∷ v) ≡ or_wrong number (add g (two_parts (split 44 v))))
    (tab : Without 9 (x ∷ y ∷ 58 ∷ 90 ∷ 58 ∷ [])) (newline : Without 10 (72 ∷ 9 ∷ x ∷ y ∷ 58 ∷ 90 ∷ 58 ∷ [])) where
  gfa_adds : (p : Pair) → (p.from ≢ []) × Without 44 p.from → (p.to ≢ []) × Without 44 p.to
      → Without 9 p.from × Without 10 p.from → Without 9 p.to × Without 10 p.to
      → AddsLine add p (pair_line (72 ∷ 9 ∷ x ∷ y ∷ 58 ∷ 90 ∷ 58 ∷ []) 44 p)
  gfa_adds p a b c d = record {
    whole = without_append _ _ (without_append _ _ newline c.1) (without_cons 44 p.to (λ e. omega arith) d.1);
    takes = λ g k e.
        gfa_takes (x ∷ y ∷ 58 ∷ 90 ∷ 58 ∷ (p.from ++ (44 ∷ p.to))) g k
        (without_append _ _ (without_append _ _ tab c.0) (without_cons 44 p.to (λ e. omega arith) d.0))
        (kind g _ ∙ rw (comma_pair p a.0 b.0 a.1 b.1) (e number));
  }

five : (v : Bytes) → leb 5 (suc (suc (suc (suc (suc (length v)))))) ≡ true
five v = le-leb 5 (suc (suc (suc (suc (suc (length v)))))) (omega arith)

pub gfa_reads_back : GfaReadsBack
unfolding to_gfa_header_lines typed_field same_bytes compare_bytes compare_numbers index_of
gfa_reads_back g v clean pairs =
    lines_read_back (text "H\tNM:Z:") (text "H\tSG:Z:") (text "H\tTL:Z:") 44 g v
    (λ n e.
    let a = clean n (own_named g n e) in
    record {
      whole = without_append (text "H\tNM:Z:") n (absent 10 _ refl) a.1;
      takes =
          gfa_takes (78 ∷ 77 ∷ 58 ∷ 90 ∷ 58 ∷ n) empty (with_name n empty) (without_append (78 ∷ 77 ∷ 58 ∷ 90 ∷ 58 ∷ []) n (absent 9 _ refl) a.0)
          (rw (five n) (name_alone g v n e));
    })
    (λ p m.
    let named = pair_named g Subgraph p m in
    let ends = pairs p (inl m) in
    gfa_adds 83 71 4 (λ h w. rw (five w)) (absent 9 _ refl) (absent 10 _ refl) p ends.0 ends.1 (clean _ named.0) (clean _ named.1))
    (λ p m.
    let named = pair_named g Translation p m in
    let ends = pairs p (inr m) in
    gfa_adds 84 76 5 (λ h w. rw (five w)) (absent 9 _ refl) (absent 10 _ refl) p ends.0 ends.1 (clean _ named.0) (clean _ named.1))

-- ------------------------------------------------------------------ tags

abbrev relation : Pair → Bytes
relation p = p.from ++ (44 ∷ p.to)

abbrev PlainRelation : Pair → Type 0
PlainRelation p = ((p.from ≢ []) × Without 44 p.from × Without 59 p.from) × ((p.to ≢ []) × Without 44 p.to × Without 59 p.to)

module _ (number : ℕ) {add : GraphName → Option Pair → Option GraphName} {state : List Pair → GraphName} {all : List Pair}
    (adds : Adds add state all) (plain : (p : Pair) → Memᴰ p all → PlainRelation p) where
  whole : (p : Pair) → PlainRelation p → Without 59 (relation p)
  whole p q = without_append p.from (44 ∷ p.to) q.0.2 (without_cons 44 p.to (λ e. omega arith) q.1.2)

  here : (xs : List Pair) (p : Pair) (ps : List Pair) → xs ++ (p ∷ ps) ≡ all → PlainRelation p
  here xs p ps e = plain p (rw (← e) (Memᴰ.append_right xs (Memᴰ.head refl)))

  read_relation : (xs : List Pair) (p : Pair) (ps : List Pair) (rs : List Bytes) → xs ++ (p ∷ ps) ≡ all → (start : ℕ)
      → tag_relations number add start (relation p ∷ rs) (state xs)
      ≡ tag_relations number add (start + length (relation p) + 1) rs (state (xs ++ (p ∷ [])))
  unfolding tag_relations
  read_relation xs p ps rs e start =
      let q = here xs p ps e in
      rw (comma_pair p q.0.0 q.1.0 q.0.1 q.1.1, adds.next xs p ps e number)

  read_relations : (xs : List Pair) (p : Pair) (ps : List Pair) → xs ++ (p ∷ ps) ≡ all → (start : ℕ)
      → tag_relations number add start (split 59 (relation p ++ more_relations ps)) (state xs) ≡ done (state all)
  unfolding more_relations
  read_relations xs p [] e start =
      rw (append-nil (relation p), split_whole 59 (relation p) (whole p (here xs p [] e)), read_relation xs p [] [] e start, e)
      (unfold tag_relations in refl)
  read_relations xs p (q ∷ qs) e start =
      rw (
        split_part 59 (relation p) (relation q ++ more_relations qs) (whole p (here xs p (q ∷ qs) e)),
        read_relation xs p (q ∷ qs) (split 59 (relation q ++ more_relations qs)) e start,
      )
      (read_relations (xs ++ (p ∷ [])) q qs (append_snoc xs p (q ∷ qs) ∙ e) (start + length (relation p) + 1))

  read_tag : tag_value number add (relations_tag all) (state []) ≡ done (state all)
  unfolding tag_value relations_tag
  read_tag = go all refl
    where
      go : (ps : List Pair) → ps ≡ all → tag_value number add (relations_tag ps) (state []) ≡ done (state all)
      go [] e = ap (λ (qs : List Pair). done (state qs)) e
      go (p ∷ ps) e = read_relations [] p ps e 0

pub tags_read_back : TagsReadBack
unfolding from_tags
tags_read_back g v plain =
    rw (
      read_name g.name refl,
      read_tag 9 (adds_subgraphs g v) (λ p m. plain p (inl m)),
      read_tag 10 (adds_translations g v) (λ p m. plain p (inr m)),
    )
  where
    read_name : (o : Option Bytes) → g.name ≡ o → name_value o empty ≡ done (record { name = o; subgraph = []; translation = [] })
    read_name None e = unfold name_value in refl
    read_name (Some n) e = unfold name_value in rw (name_alone g v n e)
