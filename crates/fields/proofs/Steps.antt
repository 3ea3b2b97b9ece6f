-- One step of a reading: a part of a line or of a tag, a line as one field, and an `H` line's first step, which is that of its second field.
use Rattle.std.proofs.Common.{◌≡◌, refl, sym, ap, ◌∙◌, true, false, ◌&&◌, [], ◌∷◌, ℕ, suc, ◌+◌, ◌-◌, ◌≤◌, ◌<◌, arith, eqb, ltb, length, take, drop, length-take-le, take-take, drop-drop, eqb-true, lt-ltb, ltb-true}
use Rattle.std.specs.Prelude.{Result, Err, nat_eq}
use Rattle.std.specs.List.{starts_with}
use Rattle.std.proofs.Math.Seq.{take-length}
use Rattle.std.proofs.lemmas.Bool.{and_parts}
use Rattle.text.proofs.Order.{same_bytes_true}
use Rattle.model.specs.declared.fault.Fault.{Fault}
use Rattle.model.specs.declared.fault.Fault.TheVariants.{ShortLine, UnknownFirstField}
use Rattle.model.specs.Text.{text}
use Rattle.model.specs.Bytes.{Bytes, index_of, split, same_bytes}
use Rattle.model.specs.Record.{empty}
use Rattle.model.specs.Reading.{is_gaf_head}
use Rattle.fields.specs.Fields.{classify_gaf, classify_part, separator_of}
use Rattle.fields.specs.Contents.{meaning_of, PlacesIn}
use Rattle.fields.specs.Rest.{NoLines, Tallies, IsLine, Reads}
use Rattle.fields.specs.declared.field.Source.{Source}
use Rattle.fields.specs.declared.field.Source.TheVariants.{Header, Tag}
use Rattle.fields.specs.declared.field.Content.{Content}
use Rattle.fields.specs.declared.line.Field.{Field}
use Rattle.fields.specs.declared.step.Tally.{Tally}
use Rattle.fields.specs.declared.step.Fields.{Fields}
use Rattle.fields.proofs.Classified.{gaf_classified}
use Rattle.fields.proofs.Parts.{part_within, part_length}
use Rattle.fields.proofs.Rest.{drop_take, next_part, rest_part, h_line, short_line, line_begin_lem, by_head, whole_line, line_begins, rest_line, rest_fields}

-- ------------------------------------------------------------------ a part

-- the next part ends at e
module _ {before : Fields} {tally : Tally} (counts : Tallies before tally) (h : before.at < before.stop) {e : ℕ}
    (f : e ≡ before.at + index_of (separator_of before.source) (drop before.at (take (before.stop - 1) before.text.now))) where
  pub part_ends : (before.at ≤ e) × (e < before.stop)
  part_ends = (omega arith, (next_part (separator_of before.source) before.text.now before.stop (omega arith) before.within before.at e h f).2)

  pub part_read : {after : Fields} {y : Bytes} {c : Result Content Fault} {begun : Tally} → after.source ≡ before.source → after.text.now ≡ before.text.now
      → after.stop ≡ before.stop → after.at ≡ e + 1 → begun.lines ≡ tally.lines → begun.fields ≡ tally.fields + 1
      → y ≡ take (e - before.at) (drop before.at before.text.now) → (meaning_of y c ≡ classify_part before.source y) × PlacesIn y c
      → Reads before tally (record { content = c; offset = before.at; start = before.at; size = e - before.at }) after begun
  part_read {after} {y} {c} {begun} a b i j m n v s =
      let w = rw v at s in
      record {
        reading = λ g. rest_part before.source before.text.now tally before.stop before.at g e h before.within counts.tag f ∙ rw (a, b, i, j, m, w.0);
        begins = rw (lt-ltb before.at before.stop h);
        part = omega (arith, part_ends, before.within);
        places = w.1;
        onward = omega arith;
        source = a;
        text = b;
        counts = record {
          lines = omega (arith, counts.lines, m);
          fields = omega (arith, counts.fields, n);
          tag = rw a (no_lines before.source counts.tag);
        };
        counted = n;
      }
    where
      no_lines : (s : Source) → NoLines s tally → NoLines s begun
      no_lines Header o = tt
      no_lines (Tag k) o = m ∙ o

-- ------------------------------------------------------------------ a line as one field

-- a line that is no `H` line, by its first field, which is k bytes long
module _ (line : Bytes) (k : ℕ) (o : starts_with nat_eq line (72 ∷ 9 ∷ []) ≡ false) (d : k ≡ 0 + index_of 9 (drop 0 line)) where
  other : k < length line → same_bytes (take k line) (text "H") ≡ false
  other m =
      let e : k ≡ index_of 9 line = omega arith in
      let h : ltb k (length line) && same_bytes (take k line) (text "H") ≡ false = rw e (sym (h_line line) ∙ o) in
      rw (lt-ltb k (length line) m) at h

  pub short_field : {at : ℕ} → length line ≤ k → IsLine line at (record { content = Err ShortLine; offset = at; start = at; size = 0 })
  short_field {at} s = record {
    reading = λ lines g. (short_line line k d lines at g s).0;
    begins = sym (short_line line k d 0 at empty s).1;
    behind = omega arith;
    part = omega arith;
    places = tt;
  }

  module _ (m : k < length line) where
    pub unknown_field : {at : ℕ} → is_gaf_head (take k line) ≡ false → IsLine line at (record { content = Err UnknownFirstField; offset = at; start = at; size = k })
    unknown_field {at} u = record {
      reading = λ lines g. by_head line k d m lines at g ∙ rw (other m, u);
      begins = sym (line_begin_lem line k d m at ∙ rw (other m, u));
      behind = omega arith;
      part = omega arith;
      places = tt;
    }

    pub gaf_field : {at : ℕ} → is_gaf_head (take k line) ≡ true → {c : Result Content Fault}
        → (meaning_of line c ≡ classify_gaf (take 2 (drop 1 line)) (split 9 (drop 4 line))) × PlacesIn line c
        → IsLine line at (record { content = c; offset = at + k + 1; start = at; size = length line })
    gaf_field {at} u {c} v =
        let n : k ≡ 3 = sym (length-take-le k line (omega arith)) ∙ eqb-true _ 3 (and_parts (eqb (length (take k line)) 3) _ u).0 in
        let z : at - at ≡ 0 = omega arith in
        let q : k + 1 ≡ 4 = omega arith in
        let w : take (length line) (drop (at - at) line) ≡ line = rw z (take-length line) in
        record {
          reading = λ lines g. by_head line k d m lines at g
              ∙ rw (other m, u, gaf_classified g (take k line) (split 9 (drop (k + 1) line)) u, w, v.0, q, n, drop_take 1 3 line);
          begins = sym (line_begin_lem line k d m at ∙ rw (other m, u));
          behind = omega arith;
          part = omega arith;
          places = rw w v.1;
        }

-- ------------------------------------------------------------------ the next line

-- the next line ends at e
module _ {before : Fields} {tally : Tally} (counts : Tallies before tally) (s : before.stop ≤ before.at) (h : before.at < length before.text.now) {e : ℕ}
    (f : e ≡ before.at + index_of 10 (drop before.at before.text.now)) where
  pub line_ends : (before.at ≤ e) × (e ≤ length before.text.now)
  line_ends = part_within 10 before.text.now before.at e (omega (arith, h)) f

  header : before.source ≡ Header
  header = go before.source refl
    where
      go : (source : Source) → before.source ≡ source → source ≡ Header
      go Header q = refl
      go (Tag k) q = let w : before.stop ≡ length before.text.now + 1 = before.whole k q in absurd (omega (arith, h, s))

  module _ {line : Bytes} (w : line ≡ take (e - before.at) (drop before.at before.text.now)) where
    line_length : length line ≡ e - before.at
    line_length = ap length w ∙ part_length 10 before.text.now before.at e (omega (arith, h)) f

    -- the same part of the line and of the text
    same_part : (start size : ℕ) → before.at ≤ start → start + size ≤ before.at + length line
        → take size (drop (start - before.at) line) ≡ take size (drop start before.text.now)
    same_part start size a b =
        let d : before.at + (start - before.at) ≡ start = omega arith in
        rw (w, drop_take (start - before.at) (e - before.at) (drop before.at before.text.now), drop-drop (start - before.at) before.at before.text.now, d)
        (take-take size (e - before.at - (start - before.at)) (drop start before.text.now) (omega (arith, line_length, a, b)))

    -- a line read as one field
    pub line_read : {field : Field} {after : Fields} → after.source ≡ before.source → after.text.now ≡ before.text.now
        → after.stop ≡ e + 1 → after.at ≡ e + 1 → IsLine line before.at field
        → Reads before tally field after (record { lines = tally.lines + 1; fields = tally.fields + 1 })
    line_read {field} {after} a b i j l =
        let p = same_part field.start field.size l.behind l.part in
        let n : suc tally.lines ≡ tally.lines + 1 = omega arith in
        record {
          reading = λ g.
              rw (header, a, header, b, i, j, ← n)
              (rest_line before.text.now tally.lines before.stop before.at e h (omega (arith, s, before.before)) f g
              ∙ rw (← w, l.reading (suc tally.lines) g, p)
              (whole_line before.text.now (suc tally.lines) (e + 1) field.offset field.start field.size _));
          begins = l.begins ∙ rw w (sym (line_begins before.text.now tally.lines before.stop before.at e h (omega (arith, s, before.before)) f));
          part = omega (arith, l.part, line_length, line_ends);
          places = rw p at l.places;
          onward = omega (arith, line_ends);
          source = a;
          text = b;
          counts = record {
            lines = omega (arith, counts.lines, line_ends);
            fields = omega (arith, counts.fields, line_ends);
            tag = rw (a, header) tt;
          };
          counted = refl;
        }

    -- an `H` line's second field, which begins behind two bytes
    module _ (o : starts_with nat_eq line (72 ∷ 9 ∷ []) ≡ true) where
      tests : (index_of 9 line < length line) × (same_bytes (take (index_of 9 line) line) (text "H") ≡ true)
      tests =
          let b = and_parts (ltb (index_of 9 line) (length line)) _ (sym (h_line line) ∙ o) in
          (ltb-true _ _ b.0, b.1)

      head_size : index_of 9 line ≡ 1
      head_size =
          sym (length-take-le (index_of 9 line) line (omega (arith, tests.0)))
          ∙ ap length ((same_bytes_true (take (index_of 9 line) line) (text "H")).0 tests.1)

      pub second_within : before.at + 2 ≤ e + 1
      second_within = omega (arith, head_size, tests.0, line_length)

      pub fields_read : {middle after : Fields} {field : Field} {begun : Tally} → middle.source ≡ before.source → middle.text.now ≡ before.text.now
          → middle.stop ≡ e + 1 → middle.at ≡ before.at + 2
          → Reads middle (record { lines = tally.lines + 1; fields = tally.fields }) field after begun → Reads before tally field after begun
      fields_read {middle} {after} {field} {begun} a b i j r =
          let m : 1 < length line = omega (arith, head_size, tests.0) in
          let u : same_bytes (take 1 line) (text "H") ≡ true = rw head_size at tests.1 in
          let d : 1 ≡ 0 + index_of 9 (drop 0 line) = omega (arith, head_size) in
          let q : before.at + 1 + 1 ≡ before.at + 2 = omega arith in
          let n : suc tally.lines ≡ tally.lines + 1 = omega arith in
          let z : before.stop ≡ before.at = omega (arith, s, before.before) in
          record {
            reading = λ g. rw header
                (rest_fields before.text.now tally.lines before.stop before.at e h z f 1 (rw w at d) (rw w at m) g (rw w at u)
                ∙ rw (q, n) (rw (a, b, i, j, header) at (r.reading g)));
            begins = (rw (b, i, j, lt-ltb (before.at + 2) (e + 1) (omega (arith, m, line_length))) at r.begins)
                ∙ sym (line_begins before.text.now tally.lines before.stop before.at e h z f ∙ rw (← w, line_begin_lem line 1 d m before.at, u, q));
            part = rw b at r.part;
            places = rw b at r.places;
            onward = omega (arith, r.onward);
            source = r.source ∙ a;
            text = r.text ∙ b;
            counts = r.counts;
            counted = r.counted;
          }
