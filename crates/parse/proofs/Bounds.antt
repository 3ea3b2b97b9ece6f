-- What a reading gives is within the sizes of docs/FORMAT.md; the number of a refused one is at most 14, and 15 with a buffer of a wrong size.
use Rattle.std.proofs.Common.{◌≡◌, refl, Bool, true, false, cond, not, ◌||◌, List, [], ◌∷◌, ℕ, suc, ◌+◌, ◌≤◌, arith, lit≤, eqb, ltb, length, take, drop, get_or, eqb-true}
use Rattle.std.specs.Prelude.{Option, Some, None}
use borrow.Author.Tests.{eqb-false}
use Rattle.model.specs.Text.{text}
use Rattle.text.proofs.Tests.{either_way}
use Rattle.record.proofs.Opening.{written_opened, written_refused}
use Rattle.model.specs.Opening.{has_size}
use Rattle.model.specs.Layout.{record_length}
use Rattle.model.specs.Bytes.{Bytes, same_bytes, split}
use Rattle.model.specs.Record.{Pair, GraphName, empty, insert_all, with_name, names, any_long, bodies, judge, max_names, max_pairs, max_bodies_bytes}
use Rattle.model.specs.Outcome.{refusal_into}
use Rattle.model.specs.declared.Kind.TheVariants.{Subgraph, Translation}
use Rattle.model.specs.Reading.{Reading, done, refused, Taken, took, wrong, judged, two_parts, or_wrong, add_to, is_typed, typed_field, one_name, gaf_line, after_taken, after_reading, refuse, typed_fields, is_gaf_head, line_fields, lines_from, without_last_empty, from_header_lines, tag_relations, tag_value, name_value, from_tags}

abbrev pub SmallTaken : Taken → Type 0
SmallTaken (took g) = judge g ≡ 0
SmallTaken (wrong n) = n ≤ 14

abbrev pub Small : Reading → Type 0
Small (done g) = judge g ≡ 0
Small (refused r) = r.number ≤ 14

pub judge_small : (g : GraphName) → judge g ≤ 14
unfolding judge
judge_small g =
    either_way (λ n. n ≤ 14) (any_long (names g)) 11 _ (lit≤ tt)
    (either_way (λ n. n ≤ 14) (ltb max_names (length (names g))) 12 _ (lit≤ tt)
    (either_way (λ n. n ≤ 14) (ltb max_pairs (length g.subgraph) || ltb max_pairs (length g.translation)) 13 _ (lit≤ tt)
    (either_way (λ n. n ≤ 14) (ltb max_bodies_bytes (length (bodies (names g)))) 14 0 (lit≤ tt) (lit≤ tt))))

judged_small : (g : GraphName) → SmallTaken (judged g)
judged_small g = go (eqb (judge g) 0) refl
  where
    go : (t : Bool) → eqb (judge g) 0 ≡ t → SmallTaken (cond t (took g) (wrong (judge g)))
    go true e = eqb-true (judge g) 0 e
    go false e = judge_small g

or_wrong_small : (n : ℕ) → n ≤ 14 → (o : Option GraphName) → SmallTaken (or_wrong n o)
or_wrong_small n h None = h
or_wrong_small n h (Some g) = judged_small g

typed_field_small : (g : GraphName) → judge g ≡ 0 → (f : Bytes) → SmallTaken (typed_field g f)
unfolding typed_field
typed_field_small g h f =
    either_way SmallTaken (not (is_typed f)) (wrong 3) _ (lit≤ tt)
    (either_way SmallTaken (not (eqb (get_or f 3 0) 90)) (took g) _ h
    (either_way SmallTaken (same_bytes (take 2 f) (text "NM")) (judged (with_name (drop 5 f) g)) _ (judged_small (with_name (drop 5 f) g))
    (either_way SmallTaken (same_bytes (take 2 f) (text "SG")) _ _ (or_wrong_small 4 (lit≤ tt) (add_to Subgraph g (two_parts (split 44 (drop 5 f)))))
    (either_way SmallTaken (same_bytes (take 2 f) (text "TL")) _ (took g) (or_wrong_small 5 (lit≤ tt) (add_to Translation g (two_parts (split 44 (drop 5 f))))) h))))

gaf_line_small : (g : GraphName) → judge g ≡ 0 → (head : Bytes) (rest : List Bytes) → SmallTaken (gaf_line g head rest)
unfolding gaf_line
gaf_line_small g h head rest =
    either_way SmallTaken (same_bytes head (text "@RN")) _ _ (or_wrong_small 6 (lit≤ tt) (one_name g rest))
    (either_way SmallTaken (same_bytes head (text "@SG")) _ _ (or_wrong_small 7 (lit≤ tt) (add_to Subgraph g (two_parts rest)))
    (either_way SmallTaken (same_bytes head (text "@TL")) _ (took g) (or_wrong_small 8 (lit≤ tt) (add_to Translation g (two_parts rest))) h))

taken_small : (x : Taken) (go : GraphName → Reading) (line begin start size : ℕ) → SmallTaken x → ((g : GraphName) → judge g ≡ 0 → Small (go g)) → Small (after_taken x go (refuse line begin start size))
taken_small (took g) go line begin start size s k = k g s
taken_small (wrong n) go line begin start size s k = s

reading_small : (x : Reading) (go : GraphName → Reading) → Small x → ((g : GraphName) → judge g ≡ 0 → Small (go g)) → Small (after_reading x go)
reading_small (done g) go s k = k g s
reading_small (refused r) go s k = s

typed_fields_small : (line start : ℕ) (fs : List Bytes) (g : GraphName) → judge g ≡ 0 → Small (typed_fields line start fs g)
unfolding typed_fields
typed_fields_small line start [] g h = h
typed_fields_small line start (f ∷ fs) g h =
    taken_small (typed_field g f) (typed_fields line (start + length f + 1) fs) line start start (length f) (typed_field_small g h f) (typed_fields_small line (start + length f + 1) fs)

line_fields_small : (line start : ℕ) (whole : Bytes) (fs : List Bytes) (g : GraphName) → judge g ≡ 0 → Small (line_fields line start whole fs g)
unfolding line_fields
line_fields_small line start whole [] g h = lit≤ tt
line_fields_small line start whole (head ∷ []) g h = lit≤ tt
line_fields_small line start whole (head ∷ f ∷ fs) g h =
    either_way Small (same_bytes head (text "H")) _ _ (typed_fields_small line (start + length head + 1) (f ∷ fs) g h)
    (either_way Small (is_gaf_head head) _ _ (taken_small (gaf_line g head (f ∷ fs)) done line (start + length head + 1) start (length whole) (gaf_line_small g h head (f ∷ fs)) (λ g' k. k)) (lit≤ tt))

lines_from_small : (line start : ℕ) (ls : List Bytes) (g : GraphName) → judge g ≡ 0 → Small (lines_from line start ls g)
unfolding lines_from
lines_from_small line start [] g h = h
lines_from_small line start (l ∷ ls) g h =
    reading_small (line_fields line start l (split 9 l) g) (lines_from (suc line) (start + length l + 1) ls) (line_fields_small line start l (split 9 l) g h) (lines_from_small (suc line) (start + length l + 1) ls)

pub empty_sizes : judge empty ≡ 0
unfolding judge names insert_all
empty_sizes = refl

pub header_small : (t : Bytes) → Small (from_header_lines t)
unfolding from_header_lines
header_small t = lines_from_small 1 0 (without_last_empty (split 10 t)) empty empty_sizes

relations_small : (n : ℕ) → n ≤ 14 → (add : GraphName → Option Pair → Option GraphName) (start : ℕ) (rs : List Bytes) (g : GraphName) → judge g ≡ 0 → Small (tag_relations n add start rs g)
unfolding tag_relations
relations_small n h add start [] g k = k
relations_small n h add start (r ∷ rs) g k =
    taken_small (or_wrong n (add g (two_parts (split 44 r)))) (tag_relations n add (start + length r + 1) rs) 0 start start (length r)
    (or_wrong_small n h (add g (two_parts (split 44 r)))) (relations_small n h add (start + length r + 1) rs)

value_small : (n : ℕ) → n ≤ 14 → (add : GraphName → Option Pair → Option GraphName) (v : Option Bytes) (g : GraphName) → judge g ≡ 0 → Small (tag_value n add v g)
unfolding tag_value
value_small n h add None g k = k
value_small n h add (Some v) g k = relations_small n h add 0 (split 59 v) g k

name_small : (v : Option Bytes) (g : GraphName) → judge g ≡ 0 → Small (name_value v g)
unfolding name_value
name_small None g h = h
name_small (Some v) g h = taken_small (judged (with_name v g)) done 0 0 0 0 (judged_small (with_name v g)) (λ g' k. k)

pub tags_small : (n s t : Option Bytes) → Small (from_tags n s t)
unfolding from_tags
tags_small n s t =
    reading_small (name_value n empty) _ (name_small n empty empty_sizes)
    (λ g h. reading_small (tag_value 9 (add_to Subgraph) s g) (tag_value 10 (add_to Translation) t) (value_small 9 (lit≤ tt) (add_to Subgraph) s g h) (value_small 10 (lit≤ tt) (add_to Translation) t))

pub into_small : (r : Reading) (buffer : Bytes) → Small r → (refusal_into r buffer).number ≤ 15
into_small r buffer s = go (has_size buffer) refl r s
  where
    go : (t : Bool) → has_size buffer ≡ t → (r : Reading) → Small r → (refusal_into r buffer).number ≤ 15
    go true e (done g) s = rw (written_opened buffer (eqb-true (length buffer) record_length e)) (lit≤ tt)
    go true e (refused r) s = rw (written_opened buffer (eqb-true (length buffer) record_length e)) (omega arith)
    go false e r s = rw (written_refused buffer (eqb-false (length buffer) record_length e)) (lit≤ tt)
