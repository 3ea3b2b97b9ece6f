-- The rest of a reading, step by step: its start and its end, the next field of an `H` line, and the next line by its first field.
use Rattle.std.proofs.Common.{◌≡◌, refl, sym, ap, ◌∙◌, Bool, true, false, cond, ◌&&◌, ◌||◌, List, [], ◌∷◌, ℕ, zero, suc, ◌+◌, ◌-◌, ◌≤◌, ◌<◌, arith, eqb, ltb, leb, length, take, drop, drop_of_length-le, drop-drop, length-take-le, take-take, eqb-true, ne_eqb, lt-ltb, le-ltb, le-leb, ltb-true, ltb-false, leb-true}
use Rattle.std.proofs.Math.Seq.{take-length, take-nil}
use borrow.Author.Tests.{eqb-false}
use Rattle.std.proofs.Math.Bool.{and-false}
use Rattle.model.specs.Text.{text}
use Rattle.model.specs.Bytes.{Bytes, index_of, split, same_bytes, compare_bytes, compare_numbers}
use Rattle.model.specs.Record.{GraphName, empty}
use Rattle.model.specs.Reading.{Reading, two_parts, add_to, Taken, took, wrong, done, after_taken, after_reading, refuse, typed_field, typed_fields, is_gaf_head, gaf_line, line_fields, lines_from, without_last_empty, from_header_lines, tag_number, tag_relations, tag_value}
use Rattle.text.proofs.Split.{split_from, split_last, split_more}
use Rattle.fields.specs.Rest.{lines_at, parts_at, NoLines, rest_of, line_begin, field_begin}
use Rattle.fields.specs.declared.step.Tally.{Tally}
use Rattle.fields.specs.Fields.{apply, classify_part, separator_of}
use Rattle.fields.specs.declared.field.Source.{Source}
use Rattle.fields.specs.declared.field.Source.TheVariants.{Header, Tag}
use Rattle.model.specs.declared.Kind.{Kind}
use Rattle.std.specs.Prelude.{Some, nat_eq}
use Rattle.std.specs.List.{starts_with}
use Rattle.std.specs.Cmp.{both_ways}
use Rattle.text.proofs.Order.{same_bytes_false}
use Rattle.fields.proofs.Classified.{typed_classified, relation_classified}
use Rattle.fields.proofs.Parts.{parts_from, between, parts_more, part_length, part_within, first_and_rest, no_rest}

-- ------------------------------------------------------------------ lines by places

keep_part : (w : Bytes) (sep : ℕ) (s : Bytes) → without_last_empty (w ∷ split sep s) ≡ w ∷ without_last_empty (split sep s)
unfolding without_last_empty
keep_part w sep s = rw (split_from sep s 0 (omega arith))

last_part : (w : Bytes) → 0 < length w → without_last_empty (w ∷ []) ≡ w ∷ []
unfolding without_last_empty
last_part [] h = let z : ◌≡◌ {A = ℕ} 0 1 = omega arith in cc
last_part (x ∷ w) h = refl

-- from the end of the text on there is no line
pub lines_end : (t : Bytes) (at : ℕ) → length t ≤ at → lines_at t at ≡ []
unfolding without_last_empty split
lines_end t at h = rw (drop_of_length-le t h)

-- else there is one, up to the next byte 10 or the end, and the next begins behind that
pub lines_more : (t : Bytes) (at e : ℕ) → at < length t → e ≡ at + index_of 10 (drop at t) → lines_at t at ≡ between t at e ∷ lines_at t (e + 1)
lines_more t at e h f = go (ltb e (length t)) refl
  where
    k : index_of 10 (drop at t) ≡ e - at
    k = omega arith

    r : at + (e - at) ≡ e
    r = omega arith

    go : (b : Bool) → ltb e (length t) ≡ b → lines_at t at ≡ between t at e ∷ lines_at t (e + 1)
    go true l =
        rw (split_more 10 t at (omega arith) (omega (arith, ltb-true e (length t) l)), k, r) (keep_part (between t at e) 10 (drop (e + 1) t))
    go false l =
        let m = ltb-false e (length t) l in
        rw (lines_end t (e + 1) (omega arith), split_last 10 t at (omega arith) (omega arith), k)
        (last_part (between t at e) (rw (part_length 10 t at e (omega arith) f) (omega arith)))

-- ------------------------------------------------------------------ the reading from a place on

pub drop_take : (m n : ℕ) (s : Bytes) → drop m (take n s) ≡ take (n - m) (drop m s)
drop_take zero n s = let e : n - 0 ≡ n = omega arith in rw e
drop_take (suc m) zero s = let e : 0 - suc m ≡ 0 = omega arith in rw e
drop_take (suc m) (suc n) [] = sym (take-nil (suc n - suc m))
drop_take (suc m) (suc n) (x ∷ s) = let e : suc n - suc m ≡ n - m = omega arith in rw e (drop_take m n s)

after_taken_lem : (r : Taken) (go : GraphName → Reading) (stop : ℕ → Reading) (next : GraphName → Reading)
    → after_reading (after_taken r go stop) next ≡ after_taken r (λ g. after_reading (go g) next) (λ n. after_reading (stop n) next)
after_taken_lem (took g) go stop next = refl
after_taken_lem (wrong n) go stop next = refl

-- the parts up to `stop` are those of the text up to there
module _ (sep : ℕ) (t : Bytes) (stop : ℕ) (h : 0 < stop) (w : stop ≤ length t + 1) where
  up_to : length (take (stop - 1) t) ≡ stop - 1
  up_to = length-take-le (stop - 1) t (omega arith)

  parts_up_to : (i : ℕ) → parts_at sep t stop i ≡ parts_from sep (take (stop - 1) t) i
  parts_up_to i =
      let e : ltb i stop ≡ leb i (stop - 1) = both_ways _ _ (λ p. le-leb i (stop - 1) (omega (arith, ltb-true i stop p))) (λ p. lt-ltb i stop (omega (arith, leb-true i (stop - 1) p))) in
      rw (up_to, e)

  pub next_part : (at e : ℕ) → at < stop → e ≡ at + index_of sep (drop at (take (stop - 1) t))
      → (parts_at sep t stop at ≡ between t at e ∷ parts_at sep t stop (e + 1)) × (length (between t at e) ≡ e - at) × (e < stop)
  next_part at e l f =
      let i : at ≤ length (take (stop - 1) t) = rw up_to (omega arith) in
      let m = part_within sep (take (stop - 1) t) at e i f in
      let b : between (take (stop - 1) t) at e ≡ between t at e = rw (drop_take at (stop - 1) t) (take-take (e - at) (stop - 1 - at) (drop at t) (omega (arith, m, up_to))) in (
        parts_up_to at ∙ parts_more sep (take (stop - 1) t) at e i f ∙ rw (b, parts_up_to (e + 1)),
        ap length (sym b) ∙ part_length sep (take (stop - 1) t) at e i f,
        omega (arith, m, up_to),
      )

pub header_start : (t : Bytes) → from_header_lines t ≡ rest_of Header t 0 0 0 empty
unfolding from_header_lines rest_of typed_fields
header_start t = refl

pub tag_start : (k : Kind) (t : Bytes) (g : GraphName) → tag_value (tag_number k) (add_to k) (Some t) g ≡ rest_of (Tag k) t 0 (length t + 1) 0 g
unfolding tag_value rest_of
tag_start k t g =
    let e : length t + 1 - 1 ≡ length t = omega arith in
    rw (lt-ltb 0 (length t + 1) (omega arith), e, take-length t)

module _ (t : Bytes) (lines stop at : ℕ) (g : GraphName) where
  at_line : stop ≤ at → rest_of Header t lines stop at g ≡ lines_from (suc lines) stop (lines_at t stop) g
  unfolding rest_of typed_fields
  at_line h = rw (le-ltb at stop h)

  pub rest_end : (source : Source) → stop ≤ at → length t ≤ stop → rest_of source t lines stop at g ≡ done g
  unfolding lines_from rest_of tag_relations
  rest_end Header h l = at_line h ∙ rw (lines_end t stop l)
  rest_end (Tag k) h l = rw (le-ltb at stop h)

-- the next part, which ends at e, is taken as its source says
pub rest_part : (source : Source) (t : Bytes) (tally : Tally) (stop at : ℕ) (g : GraphName) (e : ℕ) → at < stop → stop ≤ length t + 1
    → NoLines source tally → e ≡ at + index_of (separator_of source) (drop at (take (stop - 1) t))
    → rest_of source t tally.lines stop at g
    ≡ after_taken (apply g (classify_part source (between t at e))) (rest_of source t tally.lines stop (e + 1)) (refuse tally.lines at at (e - at))
unfolding rest_of typed_fields tag_relations
rest_part Header t tally stop at g e h w o f =
    let s = next_part 9 t stop (omega arith) w at e h f in
    let n : at + (e - at) + 1 ≡ e + 1 = omega arith in
    rw (s.0, s.1, n, ← typed_classified g (between t at e)) (after_taken_lem (typed_field g (between t at e)) _ _ _)
rest_part (Tag k) t tally stop at g e h w o f =
    let s = next_part 59 t stop (omega arith) w at e h f in
    let n : at + (e - at) + 1 ≡ e + 1 = omega arith in
    rw (s.0, s.1, n, o, relation_classified g k (tag_number k) (two_parts (split 44 (between t at e))))

-- ------------------------------------------------------------------ the next line

line_fields_lem : (lines at : ℕ) (whole head x : Bytes) (g : GraphName)
    → line_fields lines at whole (head ∷ split 9 x) g
    ≡ cond (same_bytes head (text "H")) (typed_fields lines (at + length head + 1) (split 9 x) g)
    (cond (is_gaf_head head) (after_taken (gaf_line g head (split 9 x)) done (refuse lines (at + length head + 1) at (length whole)))
    (refuse lines at at (length head) 2))
unfolding line_fields
line_fields_lem lines at whole head x g = rw (split_from 9 x 0 (omega arith))

two_fields : (at : ℕ) (head x : Bytes)
    → line_begin at (head ∷ split 9 x) ≡ cond (same_bytes head (text "H") || is_gaf_head head) (at + length head + 1) at
two_fields at head x = rw (split_from 9 x 0 (omega arith))

-- a line with another first byte has no `H` up to its first tab
other_head : (x : ℕ) (s : Bytes) → (72 ≡ x → ⊥) → same_bytes (take (index_of 9 (x ∷ s)) (x ∷ s)) (72 ∷ []) ≡ false
unfolding index_of
other_head x s n = go (eqb x 9)
  where
    go : (t : Bool) → same_bytes (take (cond t 0 (suc (index_of 9 s))) (x ∷ s)) (72 ∷ []) ≡ false
    go true = same_bytes_false [] (72 ∷ []) (λ e. cc)
    go false = same_bytes_false (x ∷ take (index_of 9 s) s) (72 ∷ []) (λ e. let p : 72 ≡ x = cc in n p)

-- an `H` line begins with these two bytes
pub h_line : (line : Bytes) → starts_with nat_eq line (72 ∷ 9 ∷ []) ≡ (ltb (index_of 9 line) (length line) && same_bytes (take (index_of 9 line) line) (72 ∷ []))
unfolding index_of same_bytes compare_bytes compare_numbers
h_line [] = refl
h_line (x ∷ []) = go (nat_eq 72 x) (eqb x 9)
  where
    go : (h t : Bool) → h && false ≡ ltb (cond t 0 1) 1 && same_bytes (take (cond t 0 1) (x ∷ [])) (72 ∷ [])
    go true true = refl
    go true false = refl
    go false true = refl
    go false false = refl
h_line (x ∷ y ∷ s) = go (nat_eq 72 x) refl (eqb y 9) refl
  where
    k : ℕ
    k = index_of 9 (x ∷ y ∷ s)

    go : (h : Bool) → nat_eq 72 x ≡ h → (t : Bool) → eqb y 9 ≡ t
        → nat_eq 72 x && (nat_eq 9 y && true) ≡ ltb k (suc (suc (length s))) && same_bytes (take k (x ∷ y ∷ s)) (72 ∷ [])
    go true e true f = rw (← eqb-true 72 x e, eqb-true y 9 f, lt-ltb 1 (suc (suc (length s))) (omega arith))
    go true e false f = rw (← eqb-true 72 x e, f, ne_eqb 9 y (λ d. eqb-false y 9 f (sym d))) (sym (and-false (ltb (suc (suc (index_of 9 s))) (suc (suc (length s))))))
    go false e t f = rw e (sym (rw (other_head x (y ∷ s) (eqb-false 72 x e)) (and-false (ltb k (suc (suc (length s)))))))

-- a line by its first field, which is k bytes long
module _ (line : Bytes) (k : ℕ) (d : k ≡ 0 + index_of 9 (drop 0 line)) where
  pub short_line : (lines at : ℕ) (g : GraphName) → length line ≤ k
      → (line_fields lines at line (split 9 line) g ≡ refuse lines at 0 0 1) × (line_begin at (split 9 line) ≡ at)
  unfolding line_fields
  short_line lines at g s = let n = no_rest 9 line k d s in (rw n, rw n)

  module _ (m : k < length line) where
    head_length : length (take k line) ≡ k
    head_length = length-take-le k line (omega arith)

    pub line_begin_lem : (at : ℕ) → line_begin at (split 9 line) ≡ cond (same_bytes (take k line) (text "H") || is_gaf_head (take k line)) (at + k + 1) at
    line_begin_lem at =
        ap (line_begin at) (first_and_rest 9 line k d m) ∙ two_fields at (take k line) (drop (k + 1) line) ∙ rw head_length

    pub by_head : (lines at : ℕ) (g : GraphName) → line_fields lines at line (split 9 line) g
        ≡ cond (same_bytes (take k line) (text "H")) (typed_fields lines (at + k + 1) (split 9 (drop (k + 1) line)) g)
        (cond (is_gaf_head (take k line)) (after_taken (gaf_line g (take k line) (split 9 (drop (k + 1) line))) done (refuse lines (at + k + 1) at (length line)))
        (refuse lines at at k 2))
    by_head lines at g =
        ap (λ (fs : List Bytes). line_fields lines at line fs g) (first_and_rest 9 line k d m)
        ∙ line_fields_lem lines at line (take k line) (drop (k + 1) line) g ∙ rw head_length

next_line : (lines at : ℕ) (l : Bytes) (ls : List Bytes) (g : GraphName)
    → lines_from lines at (l ∷ ls) g ≡ after_reading (line_fields lines at l (split 9 l) g) (lines_from (suc lines) (at + length l + 1) ls)
unfolding lines_from
next_line lines at l ls g = refl

-- a line that counts as one field, and then the next line
pub whole_line : (t : Bytes) (lines stop begin start size : ℕ) (r : Taken)
    → after_reading (after_taken r done (refuse lines begin start size)) (lines_from (suc lines) stop (lines_at t stop))
    ≡ after_taken r (rest_of Header t lines stop stop) (refuse lines begin start size)
whole_line t lines stop begin start size (took g) = sym (at_line t lines stop stop g (omega arith))
whole_line t lines stop begin start size (wrong n) = refl

-- the line that begins at `at` and ends at e
module _ (t : Bytes) (lines stop at e : ℕ) (h : at < length t) (s : stop ≡ at) (f : e ≡ at + index_of 10 (drop at t)) where
  line_length : length (between t at e) ≡ e - at
  line_length = part_length 10 t at e (omega arith) f

  pub line_begins : field_begin t stop at ≡ line_begin at (split 9 (between t at e))
  line_begins = let n : index_of 10 (drop at t) ≡ e - at = omega arith in rw (le-ltb at stop (omega arith), n)

  pub rest_line : (g : GraphName) → rest_of Header t lines stop at g
      ≡ after_reading (line_fields (suc lines) at (between t at e) (split 9 (between t at e)) g) (lines_from (suc (suc lines)) (e + 1) (lines_at t (e + 1)))
  rest_line g =
      let n : at + (e - at) + 1 ≡ e + 1 = omega arith in
      at_line t lines stop at g (omega arith) ∙ rw (s, lines_more t at e h f)
      (next_line (suc lines) at (between t at e) (lines_at t (e + 1)) g ∙ rw (line_length, n))

  -- an `H` line goes on with its second field, which begins behind the first of k bytes
  module _ (k : ℕ) (d : k ≡ 0 + index_of 9 (drop 0 (between t at e))) (m : k < length (between t at e)) where
    fields_here : split 9 (drop (k + 1) (between t at e)) ≡ parts_at 9 t (e + 1) (at + k + 1)
    fields_here =
        let l : ltb (at + k + 1) (e + 1) ≡ true = lt-ltb (at + k + 1) (e + 1) (omega (arith, m, line_length)) in
        let z : e + 1 - 1 ≡ e = omega arith in
        let p : at + (k + 1) ≡ at + k + 1 = omega arith in
        let q : e - at - (k + 1) ≡ e - (at + k + 1) = omega arith in
        rw (l, z, drop_take (at + k + 1) e t, drop_take (k + 1) (e - at) (drop at t), drop-drop (k + 1) at t, p, q)

    pub rest_fields : (g : GraphName) → same_bytes (take k (between t at e)) (text "H") ≡ true → rest_of Header t lines stop at g ≡ rest_of Header t (suc lines) (e + 1) (at + k + 1) g
    unfolding rest_of
    rest_fields g u = rest_line g ∙ rw (by_head (between t at e) k d m (suc lines) at g, u, fields_here)
