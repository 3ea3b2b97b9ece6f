-- Where a refusal is (`OffsetRight`): a field that is wrong stands at its offset, and is wrong by itself, whatever was read before it.
use Rattle.std.proofs.Common.{◌≡◌, refl, sym, ap, subst, ◌∙◌, ◌⊎◌, inl, inr, ⊎_elim, Bool, true, false, cond, not, ◌||◌, List, [], ◌∷◌, ℕ, suc, ◌+◌, ◌-◌, ◌≤◌, ◌<◌, arith, eqb, ltb, leb, length, take, drop, get_or, ne_eqb, le-leb}
use Rattle.std.proofs.Math.Bool.{false≢true}
use Rattle.std.specs.Prelude.{Option, Some, None}
use borrow.Author.Tests.{eqb-false, lt-leb}
use Rattle.model.specs.declared.Kind.{Kind}
use Rattle.model.specs.declared.Kind.TheVariants.{Subgraph, Translation}
use Rattle.model.specs.Text.{text}
use Rattle.model.specs.Bytes.{Bytes, same_bytes, is_empty, split}
use Rattle.model.specs.Record.{Pair, GraphName, empty, with_name, with_pair, names, any_long, bodies, judge, max_names, max_pairs, max_bodies_bytes}
use Rattle.model.specs.Reading.{Refusal, Reading, done, refused, Taken, took, wrong, judged, two_parts, or_wrong, add_to, is_typed, typed_field, is_gaf_head, gaf_line, after_taken, after_reading, quotes, refuse, typed_fields, line_fields, lines_from, without_last_empty, from_header_lines, tag_number, tag_relations, tag_value, name_value, from_tags}
use Rattle.model.specs.Statements.{Behind, Begins, of_line, PlacedInLines, BeginsIn, QuotedIn, tag_of, PlacedInTags, OffsetRight}
use Rattle.text.proofs.Tests.{either_way}
use Rattle.fields.specs.Fields.{FieldMeaning, fault, nothing, named, related, apply, related_by, related_by_tag, one_named, classify_string, classify_typed, classify_gaf}
use Rattle.fields.proofs.Classified.{typed_classified, gaf_classified, relation_classified}
use Rattle.fields.proofs.Standing.{Stands, all_stands, Free, Follow, Parts, follow_from, split_stands, without_last, line_at, line_ended, line_along}

-- ------------------------------------------------------------------ the numbers of faults

-- sizes are within, or refused with a number over 10
abbrev SizeNumber : ℕ → Type 0
SizeNumber n = (n ≡ 0) ⊎ (10 < n)

judge_sizes : (g : GraphName) → SizeNumber (judge g)
unfolding judge
judge_sizes g =
    either_way SizeNumber (any_long (names g)) 11 _ (inr (omega arith))
    (either_way SizeNumber (ltb max_names (length (names g))) 12 _ (inr (omega arith))
    (either_way SizeNumber (ltb max_pairs (length g.subgraph) || ltb max_pairs (length g.translation)) 13 _ (inr (omega arith))
    (either_way SizeNumber (ltb max_bodies_bytes (length (bodies (names g)))) 14 0 (inr (omega arith)) (inl refl))))

-- nothing that is taken is wrong
abbrev IsTook : Taken → Type 0
IsTook (took g) = Unit {0}
IsTook (wrong n) = ⊥

took_right : (g : GraphName) (n : ℕ) → took g ≡ wrong n → ⊥
took_right g n e = subst IsTook e tt

judged_wrong : (g : GraphName) (n : ℕ) → judged g ≡ wrong n → 10 < n
judged_wrong g n = go (eqb (judge g) 0) refl
  where
    go : (b : Bool) → eqb (judge g) 0 ≡ b → cond b (took g) (wrong (judge g)) ≡ wrong n → 10 < n
    go true e w = absurd (took_right g n w)
    go false e w =
        let s : judge g ≡ n = cc in
        ⊎_elim (λ (z : judge g ≡ 0). absurd (eqb-false (judge g) 0 e z)) (λ (l : 10 < judge g). rw s at l) (judge_sizes g)

-- a field is wrong by itself, or the sizes are
apply_wrong : (g : GraphName) (m : FieldMeaning) (n : ℕ) → apply g m ≡ wrong n → (m ≡ fault n) ⊎ (10 < n)
apply_wrong g (fault k) n e = inl cc
apply_wrong g nothing n e = absurd (took_right g n e)
apply_wrong g (named w) n e = inr (judged_wrong (with_name w g) n e)
apply_wrong g (related k p) n e = inr (judged_wrong (with_pair k p g) n e)

-- its own fault is one of a range
abbrev FaultIn : ℕ → ℕ → FieldMeaning → Type 0
FaultIn lo hi (fault n) = (lo ≤ n) × (n ≤ hi)
FaultIn lo hi nothing = Unit {0}
FaultIn lo hi (named w) = Unit {0}
FaultIn lo hi (related k p) = Unit {0}

related_in : (lo hi n : ℕ) → lo ≤ n → n ≤ hi → (k : Kind) (p : Option Pair) → FaultIn lo hi (related_by k n p)
related_in lo hi n l h k None = (l, h)
related_in lo hi n l h k (Some p) = tt

tagged_in : (lo hi n m : ℕ) → lo ≤ n → n ≤ hi → lo ≤ m → m ≤ hi → (tag : Bytes) (ws : List Bytes) → FaultIn lo hi (related_by_tag tag n m ws)
tagged_in lo hi n m ln nh lm mh tag ws =
    either_way (FaultIn lo hi) (same_bytes tag (text "SG")) _ _ (related_in lo hi n ln nh Subgraph (two_parts ws))
    (either_way (FaultIn lo hi) (same_bytes tag (text "TL")) _ nothing (related_in lo hi m lm mh Translation (two_parts ws)) tt)

typed_in : (f : Bytes) → FaultIn 3 5 (classify_typed f)
unfolding classify_typed classify_string
typed_in f =
    either_way (FaultIn 3 5) (not (is_typed f)) (fault 3) _ (omega arith)
    (either_way (FaultIn 3 5) (not (eqb (get_or f 3 0) 90)) nothing _ tt
    (either_way (FaultIn 3 5) (same_bytes (take 2 f) (text "NM")) (named (drop 5 f)) _ tt
    (tagged_in 3 5 4 5 (omega arith) (omega arith) (omega arith) (omega arith) (take 2 f) (split 44 (drop 5 f)))))

name_in_lem : (ws : List Bytes) → FaultIn 6 8 (one_named ws)
name_in_lem [] = omega arith
name_in_lem (w ∷ []) = either_way (FaultIn 6 8) (is_empty w) (fault 6) (named w) (omega arith) tt
name_in_lem (w ∷ v ∷ ws) = omega arith

gaf_in : (tag : Bytes) (ws : List Bytes) → FaultIn 6 8 (classify_gaf tag ws)
unfolding classify_gaf
gaf_in tag ws =
    either_way (FaultIn 6 8) (same_bytes tag (text "RN")) (one_named ws) _ (name_in_lem ws)
    (tagged_in 6 8 7 8 (omega arith) (omega arith) (omega arith) (omega arith) tag ws)

-- a field that is refused is so by itself, with a number of its range, or for the sizes
abbrev Alone : ℕ → ℕ → FieldMeaning → ℕ → Type 0
Alone lo hi m n = (lo ≤ n) × (n ≤ hi) × (apply empty m ≡ wrong n)

field_wrong : (lo hi : ℕ) (g : GraphName) (m : FieldMeaning) → FaultIn lo hi m → (n : ℕ) → apply g m ≡ wrong n → Alone lo hi m n ⊎ (10 < n)
field_wrong lo hi g m r n e = ⊎_elim own inr (apply_wrong g m n e)
  where
    own : m ≡ fault n → Alone lo hi m n ⊎ (10 < n)
    own d = let s : FaultIn lo hi (fault n) = rw d at r in inl (s.0, s.1, rw d)

-- ------------------------------------------------------------------ what holds of every refusal of a reading

module _ (P : Refusal → Type 0) where
  abbrev OfRefusal : Reading → Type 0
  OfRefusal (done g) = Unit {0}
  OfRefusal (refused r) = P r

  after_taken_lem : (x : Taken) (go : GraphName → Reading) (stop : ℕ → Reading) → ((g : GraphName) → OfRefusal (go g))
      → ((n : ℕ) → x ≡ wrong n → OfRefusal (stop n)) → OfRefusal (after_taken x go stop)
  after_taken_lem (took g) go stop k s = k g
  after_taken_lem (wrong n) go stop k s = s n refl

  after_reading_lem : (x : Reading) (go : GraphName → Reading) → OfRefusal x → ((g : GraphName) → OfRefusal (go g)) → OfRefusal (after_reading x go)
  after_reading_lem (done g) go s k = k g
  after_reading_lem (refused r) go s k = s

  of_refused : (x : Reading) (r : Refusal) → OfRefusal x → x ≡ refused r → P r
  of_refused x r h e = rw e at h

clash : (b : Bool) → b ≡ false → b ≡ true → ⊥
clash b f t = false≢true (sym f ∙ t)

-- the place behind a separator
behind : (sep : ℕ) (t : Bytes) (i : ℕ) → get_or t i 0 ≡ sep → Behind sep t (i + 1)
behind sep t i e = let z : i + 1 - 1 ≡ i = omega arith in (omega arith, rw (z, e))

-- ------------------------------------------------------------------ header lines

module _ (t : Bytes) where
  abbrev Placed : Reading → Type 0
  Placed = OfRefusal (PlacedInLines t)

  -- sizes that are refused at a field
  sizes_placed : (line begin start size n : ℕ) → 10 < n → begin ≤ length t → line_at t begin ≡ line → Behind 9 t begin
      → Placed (refuse line begin start size n)
  sizes_placed line begin start size n h l o b =
      rw (le-leb 2 n (omega arith), lt-leb n 10 h)
      (record {
        inside = l;
        lines = o;
        quoted = λ e. absurd (clash (quotes n) (rw (le-leb 2 n (omega arith), lt-leb n 10 h)) e);
        line = λ e. absurd (clash (of_line n) (rw (lt-leb n 2 (omega arith), le-leb 6 n (omega arith), lt-leb n 8 (omega arith))) e);
        field = λ e. b;
      })

  -- a field of an `H` line
  typed_placed : (line start : ℕ) (f : Bytes) (n : ℕ) → line_at t start ≡ line → Behind 9 t start → Stands t start f
      → 3 ≤ n → n ≤ 5 → typed_field empty f ≡ wrong n → Placed (refuse line start start (length f) n)
  unfolding typed_fields
  typed_placed line start f n o b s l h w =
      let q : (leb 2 n ≡ true) × (leb n 10 ≡ true) = (le-leb 2 n (omega arith), le-leb n 10 (omega arith)) in
      rw (q.0, q.1)
      (record {
        inside = omega (arith, s.0);
        lines = o;
        quoted = λ e. record { start = refl; within = s.0; alone = rw (s.1, ne_eqb n 2 (omega arith), le-leb n 5 h, w, q.0, q.1) };
        line = λ e. absurd (clash (of_line n) (rw (lt-leb n 2 (omega arith), lt-leb 6 n (omega arith))) e);
        field = λ e. b;
      })

  -- where a field of this line may begin
  abbrev FieldIn : ℕ → ℕ → Type 0
  FieldIn line i = Behind 9 t i × (line_at t i ≡ line)

  fields_placed : (line start : ℕ) (fs : List Bytes) (g : GraphName) → Follow 9 (FieldIn line) t start fs → Placed (typed_fields line start fs g)
  unfolding typed_fields Follow
  fields_placed line start [] g p = tt
  fields_placed line start (f ∷ fs) g p =
      after_taken_lem (PlacedInLines t) (typed_field g f) _ _ (λ g'. fields_placed line (start + length f + 1) fs g' p.3) λ n e.
      ⊎_elim
      (λ (a : Alone 3 5 (classify_typed f) n). typed_placed line start f n p.0.1 p.0.0 p.1 a.0 a.1 (typed_classified empty f ∙ a.2))
      (λ (h : 10 < n). sizes_placed line start start (length f) n h (omega (arith, p.1.0)) p.0.1 p.0.0)
      (field_wrong 3 5 g (classify_typed f) (typed_in f) n (sym (typed_classified g f) ∙ e))

  -- one line, which begins at `start`
  module _ (line start : ℕ) (whole : Bytes) (o : line_at t start ≡ line) (b : Begins 10 t start) (s : Stands t start whole)
      (free : Free 10 t start (start + length whole)) where
    -- it has one field
    short_placed : Placed (refuse line start 0 0 1)
    short_placed = record {
      inside = omega (arith, s.0);
      lines = o;
      quoted = λ e. absurd (false≢true e);
      line = λ e. b;
      field = λ e. absurd (false≢true (sym e));
    }

    -- its first field is of no kind
    unknown_placed : (head : Bytes) → Stands t start head → same_bytes head (text "H") ≡ false → is_gaf_head head ≡ false
        → Placed (refuse line start start (length head) 2)
    unfolding line_fields
    unknown_placed head p h u = record {
      inside = omega (arith, s.0);
      lines = o;
      quoted = λ e. record { start = refl; within = p.0; alone = rw (p.1, h, u) };
      line = λ e. b;
      field = λ e. absurd (false≢true (sym e));
    }

    -- it is an `@` line, and wrong
    line_placed : (head f : Bytes) (fs : List Bytes) (n : ℕ) → split 9 whole ≡ head ∷ f ∷ fs → same_bytes head (text "H") ≡ false → is_gaf_head head ≡ true
        → 6 ≤ n → n ≤ 8 → gaf_line empty head (f ∷ fs) ≡ wrong n → Placed (refuse line (start + length head + 1) start (length whole) n)
    unfolding line_fields
    line_placed head f fs n d h u l k w =
        let q : (leb 2 n ≡ true) × (leb n 10 ≡ true) = (le-leb 2 n (omega arith), le-leb n 10 (omega arith)) in
        rw (q.0, q.1)
        (record {
          inside = omega (arith, s.0);
          lines = o;
          quoted = λ e. record { start = refl; within = s.0; alone = rw (s.1, ne_eqb n 2 (omega arith), lt-leb n 5 (omega arith), d, h, u, w, q.0, q.1) };
          line = λ e. b;
          field = λ e. absurd (clash (of_line n) e (rw (lt-leb n 2 (omega arith), le-leb 6 n l, le-leb n 8 k)));
        })

    -- where its fields begin but for the first
    field_behind : (i : ℕ) → start ≤ i → i < start + length whole → get_or t i 0 ≡ 9 → FieldIn line (i + 1)
    field_behind i l h e =
        let z : start + (i + 1 - start) ≡ i + 1 = omega arith in
        (behind 9 t i e, rw z at (line_along t start (start + length whole) free s.0 (i + 1 - start) (omega arith)) ∙ o)

    module _ (g : GraphName) where
      gaf_placed : (head f : Bytes) (fs : List Bytes) → split 9 whole ≡ head ∷ f ∷ fs → Parts 9 (FieldIn line) t start (head ∷ f ∷ fs)
          → same_bytes head (text "H") ≡ false → is_gaf_head head ≡ true
          → Placed (after_taken (gaf_line g head (f ∷ fs)) done (refuse line (start + length head + 1) start (length whole)))
      unfolding Follow
      gaf_placed head f fs d p h u =
          let meaning = classify_gaf (drop 1 head) (f ∷ fs) in
          let second = p.2 in
          after_taken_lem (PlacedInLines t) (gaf_line g head (f ∷ fs)) done _ (λ g'. tt) λ n e.
          ⊎_elim
          (λ (a : Alone 6 8 meaning n). line_placed head f fs n d h u a.0 a.1 (gaf_classified empty head (f ∷ fs) u ∙ a.2))
          (λ (k : 10 < n). sizes_placed line (start + length head + 1) start (length whole) n k (omega (arith, second.1.0)) second.0.1 second.0.0)
          (field_wrong 6 8 g meaning (gaf_in (drop 1 head) (f ∷ fs)) n (sym (gaf_classified g head (f ∷ fs) u) ∙ e))

      by_fields : (fs : List Bytes) → split 9 whole ≡ fs → Parts 9 (FieldIn line) t start fs → Placed (line_fields line start whole fs g)
      unfolding line_fields
      by_fields [] d p = absurd p
      by_fields (head ∷ []) d p = short_placed
      by_fields (head ∷ f ∷ fs) d p = by_head (same_bytes head (text "H")) refl
        where
          by_gaf : same_bytes head (text "H") ≡ false → (u : Bool) → is_gaf_head head ≡ u
              → Placed (cond u (after_taken (gaf_line g head (f ∷ fs)) done (refuse line (start + length head + 1) start (length whole))) (refuse line start start (length head) 2))
          by_gaf h true u = gaf_placed head f fs d p h u
          by_gaf h false u = unknown_placed head p.0 h u

          by_head : (h : Bool) → same_bytes head (text "H") ≡ h
              → Placed (cond h (typed_fields line (start + length head + 1) (f ∷ fs) g)
              (cond (is_gaf_head head) (after_taken (gaf_line g head (f ∷ fs)) done (refuse line (start + length head + 1) start (length whole)))
              (refuse line start start (length head) 2)))
          by_head true h = fields_placed line (start + length head + 1) (f ∷ fs) g p.2
          by_head false h = by_gaf h (is_gaf_head head) refl

      one_line_placed : Placed (line_fields line start whole (split 9 whole) g)
      one_line_placed =
          by_fields (split 9 whole) refl
          (split_stands 9 (FieldIn line) t start (start + length whole) field_behind whole start (omega arith) (omega arith) s)

  -- the first of the lines that are left has this number
  abbrev Numbered : ℕ → ℕ → List Bytes → Type 0
  Numbered line start [] = Unit {0}
  Numbered line start (l ∷ ls) = line_at t start ≡ line

  numbered_next : (line start : ℕ) (l : Bytes) (ls : List Bytes) → line_at t start ≡ line → Follow 10 (Begins 10 t) t start (l ∷ ls)
      → Numbered (suc line) (start + length l + 1) ls
  unfolding Follow
  numbered_next line start l [] o p = tt
  numbered_next line start l (v ∷ vs) o p = ⊎_elim (λ (z : start + length l + 1 ≡ 0). absurd (omega arith)) ended p.3.0
    where
      ended : Behind 10 t (start + length l + 1) → line_at t (start + length l + 1) ≡ suc line
      ended b =
          let z : start + length l + 1 - 1 ≡ start + length l = omega arith in
          line_ended t (start + length l) (omega (arith, p.3.1.0)) (rw z at b.1)
          ∙ ap suc (line_along t start (start + length l) p.2 p.1.0 (length l) (omega arith) ∙ o)

  lines_placed : (line start : ℕ) (ls : List Bytes) (g : GraphName) → Numbered line start ls → Follow 10 (Begins 10 t) t start ls
      → Placed (lines_from line start ls g)
  unfolding lines_from Follow
  lines_placed line start [] g o p = tt
  lines_placed line start (l ∷ ls) g o p =
      after_reading_lem (PlacedInLines t) (line_fields line start l (split 9 l) g) (lines_from (suc line) (start + length l + 1) ls)
      (one_line_placed line start l o p.0 p.1 p.2 g)
      (λ g'. lines_placed (suc line) (start + length l + 1) ls g' (numbered_next line start l ls o p) p.3)

  numbered_first : (ls : List Bytes) → Numbered 1 0 ls
  unfolding split
  numbered_first [] = tt
  numbered_first (l ∷ ls) = refl

  header_placed : Placed (from_header_lines t)
  unfolding from_header_lines
  header_placed =
      let p = split_stands 10 (Begins 10 t) t 0 (length t) (λ i l h e. inr (behind 10 t i e)) t 0 (omega arith) (omega arith) (all_stands t) in
      let ls = without_last_empty (split 10 t) in
      lines_placed 1 0 ls empty (numbered_first ls)
      (without_last 10 (Begins 10 t) t 0 (split 10 t) (follow_from 10 (Begins 10 t) t 0 (split 10 t) (inl refl) p))

-- ------------------------------------------------------------------ tags

tag_range : (k : Kind) → (9 ≤ tag_number k) × (tag_number k ≤ 10)
tag_range Subgraph = omega arith
tag_range Translation = omega arith

-- a tag's number tells its kind
kind_told : (j k : Kind) → tag_number j ≡ tag_number k → j ≡ k
kind_told Subgraph Subgraph e = refl
kind_told Subgraph Translation e = absurd (omega arith)
kind_told Translation Subgraph e = absurd (omega arith)
kind_told Translation Translation e = refl

-- a refusal within the value of the tag of a kind
abbrev InValue : Kind → Option Bytes → Refusal → Type 0
InValue k o r = ((r.number ≡ tag_number k) × (BeginsIn o r × QuotedIn k o r)) ⊎ ((10 < r.number) × BeginsIn o r)

module _ (k : Kind) where
  relation_placed : (v : Bytes) (start : ℕ) (w : Bytes) (n : ℕ) → Begins 59 v start → Stands v start w
      → Alone (tag_number k) (tag_number k) (related_by k (tag_number k) (two_parts (split 44 w))) n ⊎ (10 < n)
      → OfRefusal (InValue k (Some v)) (refuse 0 start start (length w) n)
  unfolding tag_relations
  relation_placed v start w n b s (inl a) =
      let m = tag_number k in
      let e : n ≡ m = omega (arith, a.0, a.1) in
      let q : (leb 2 m ≡ true) × (leb m 10 ≡ true) = (le-leb 2 m (omega (arith, tag_range k)), le-leb m 10 (tag_range k).1) in
      rw (e, q.0, q.1)
      (inl (
        refl,
        (
          (omega (arith, s.0), b),
          record {
            start = refl;
            within = s.0;
            alone = rw (s.1, relation_classified empty k m (two_parts (split 44 w)), rw e at a.2, q.0, q.1);
          },
        ),
      ))
  relation_placed v start w n b s (inr h) =
      rw (le-leb 2 n (omega arith), lt-leb n 10 h) (inr (h, (omega (arith, s.0), b)))

  relations_placed : (v : Bytes) (start : ℕ) (ws : List Bytes) (g : GraphName) → Follow 59 (Begins 59 v) v start ws
      → OfRefusal (InValue k (Some v)) (tag_relations (tag_number k) (add_to k) start ws g)
  unfolding tag_relations Follow
  relations_placed v start [] g p = tt
  relations_placed v start (w ∷ ws) g p =
      let m = tag_number k in
      let parts = two_parts (split 44 w) in
      after_taken_lem (InValue k (Some v)) (or_wrong m (add_to k g parts)) _ _ (λ g'. relations_placed v (start + length w + 1) ws g' p.3) λ n e.
      relation_placed v start w n p.0 p.1
      (field_wrong m m g (related_by k m parts) (related_in m m m (omega arith) (omega arith) k parts) n (sym (relation_classified g k m parts) ∙ e))

  -- the whole value, where it is there
  value_placed : (o : Option Bytes) (g : GraphName) → OfRefusal (InValue k o) (tag_value (tag_number k) (add_to k) o g)
  unfolding tag_value
  value_placed None g = tt
  value_placed (Some v) g =
      let p = split_stands 59 (Begins 59 v) v 0 (length v) (λ i l h e. inr (behind 59 v i e)) v 0 (omega arith) (omega arith) (all_stands v) in
      relations_placed v 0 (split 59 v) g (follow_from 59 (Begins 59 v) v 0 (split 59 v) (inl refl) p)

module _ (s t : Option Bytes) where
  name_placed : (n : Option Bytes) (g : GraphName) → OfRefusal (PlacedInTags s t) (name_value n g)
  unfolding name_value
  name_placed None g = tt
  name_placed (Some v) g = after_taken_lem (PlacedInTags s t) (judged (with_name v g)) done _ (λ g'. tt) λ n e.
      let h = judged_wrong (with_name v g) n e in
      rw (le-leb 2 n (omega arith), lt-leb n 10 h)
      (record {
        relation = λ k (d : n ≡ tag_number k). absurd (omega (arith, tag_range k));
        sizes = λ l. inl refl;
      })

  in_tags : (k : Kind) (r : Refusal) → InValue k (tag_of k s t) r → PlacedInTags s t r
  in_tags k r (inl h) = record {
    relation = λ j d. subst (λ (i : Kind). BeginsIn (tag_of i s t) r × QuotedIn i (tag_of i s t) r) (kind_told k j (sym h.0 ∙ d)) h.1;
    sizes = λ (l : 10 < r.number). absurd (omega (arith, h.0, tag_range k));
  }
  in_tags k r (inr h) = record {
    relation = λ j (d : r.number ≡ tag_number j). absurd (omega (arith, h.0, tag_range j));
    sizes = λ l. inr (k, h.1);
  }

  tag_placed : (k : Kind) (g : GraphName) → OfRefusal (PlacedInTags s t) (tag_value (tag_number k) (add_to k) (tag_of k s t) g)
  tag_placed k g = go (tag_value (tag_number k) (add_to k) (tag_of k s t) g) (value_placed k (tag_of k s t) g)
    where
      go : (x : Reading) → OfRefusal (InValue k (tag_of k s t)) x → OfRefusal (PlacedInTags s t) x
      go (done g) h = tt
      go (refused r) h = in_tags k r h

  tags_placed : (n : Option Bytes) → OfRefusal (PlacedInTags s t) (from_tags n s t)
  unfolding from_tags
  tags_placed n =
      after_reading_lem (PlacedInTags s t) (name_value n empty) _ (name_placed n empty) λ g.
      after_reading_lem (PlacedInTags s t) (tag_value 9 (add_to Subgraph) s g) (tag_value 10 (add_to Translation) t) (tag_placed Subgraph g) (tag_placed Translation)

pub offset_right : OffsetRight
offset_right = record {
  header_lines = λ t r e. of_refused (PlacedInLines t) (from_header_lines t) r (header_placed t) e;
  tags = λ n s t r e. of_refused (PlacedInTags s t) (from_tags n s t) r (tags_placed s t n) e;
}
