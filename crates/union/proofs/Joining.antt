-- The names of two records joined, one more at each turn.
use mathlib.Core.Path.{◌≡◌, sym, ap, ◌∙◌}
use mathlib.Core.Logic.{◌⊎◌, ⊎_elim}
use mathlib.Core.List.{List}
use Prim.Native.Nat.{ℕ, ◌+◌, ◌≤◌, ◌<◌}
use native.Mathlib.Decide.{dec_lt}
use native.Mathlib.Omega.{arith}
use lib.ListN.{length, get_or, set}
use lib.Seq.{get_or-set_same, get_or-set_other}
use borrow.Author.Count.{below_more}
use borrow.Author.Tests.{lt-leb, le-leb}
use Rattle.std.specs.declared.cmp.Ordering.TheVariants.{Less, Equal, Greater}
use Rattle.model.specs.Bytes.{Bytes, compare_bytes}
use Rattle.model.specs.Layout.{name_count, name_at}
use Rattle.text.proofs.Order.{bytes_order}
use Rattle.text.proofs.Ascending.{greater_less}
use Rattle.record.specs.Holds.{HoldsRecord}
use Rattle.search.specs.declared.names.Span.{Span}
use Rattle.search.specs.Spans.{spanned, no_span, name_by}
use Rattle.search.specs.Names.{InOrder}
use Rattle.union.specs.Names.{span_at, next_order, NumberedTo, Joinable}
use Rattle.union.proofs.Placed.{name_order, first_named, second_named}

-- i names of a record d are passed: they have numbers, and every name that has a number comes before those that are left
pub record Passed (b c d : Bytes) (i : ℕ) (spans : List Span) (numbers : List ℕ) (n : ℕ) : Type 0 where
  pub within : i ≤ name_count d
  pub numbered : NumberedTo i d numbers n (name_by b c spans)
  pub before : (u : ℕ) → u < n → i < name_count d → compare_bytes (name_by b c spans u) (name_at d i) ≡ Less

pub record Joining (b c : Bytes) (spans : List Span) (first second : List ℕ) (i j n : ℕ) : Type 0 where
  pub count : n ≤ i + j
  pub order : InOrder (name_by b c spans) n
  pub of_first : Passed b c b i spans first n
  pub of_second : Passed b c c j spans second n

-- ------------------------------------------------------------------ one name more

module _ (b c : Bytes) (spans : List Span) (n : ℕ) (s : Span) (room : n < length spans) where
  abbrev more : List Span
  more = set spans n s

  old : (u : ℕ) → u < n → name_by b c more u ≡ name_by b c spans u
  old u l = ap (spanned b c) (get_or-set_other spans n u s no_span (omega arith))

  new : name_by b c more n ≡ spanned b c s
  new = ap (spanned b c) (get_or-set_same spans n s no_span room)

  module _ (above : (u : ℕ) → u < n → compare_bytes (name_by b c spans u) (spanned b c s) ≡ Less) where
    -- what comes after the new name comes after all
    after : (y : Bytes) → compare_bytes (spanned b c s) y ≡ Less → (u : ℕ) → u < n + 1 → compare_bytes (name_by b c more u) y ≡ Less
    after y e = below_more (λ u. compare_bytes (name_by b c more u) y ≡ Less) n
        (λ u k. rw (old u k) (bytes_order.trans (name_by b c spans u) (spanned b c s) y (above u k) e))
        (rw new e)

    more_order : InOrder (name_by b c spans) n → InOrder (name_by b c more) (n + 1)
    more_order order u w l k = below_more (λ w. u < w → compare_bytes (name_by b c more u) (name_by b c more w) ≡ Less) n
        (λ w o m. let ul : u < n = omega arith in rw (old u ul, old w o) (order u w m o))
        (λ m. rw (new, old u m) (above u m)) w k l

    module _ (d : Bytes) (rises : InOrder (name_at d) (name_count d)) (i : ℕ) (numbers : List ℕ) (t : Passed b c d i spans numbers n) where
      kept : NumberedTo i d numbers (n + 1) (name_by b c more)
      kept p l = let w = t.numbered p l in (omega (arith, w.0), old (get_or numbers p 0) w.0 ∙ w.1)

      -- d has the new name, or its next one comes later
      taken : i < name_count d → spanned b c s ≡ name_at d i → i < length numbers → Passed b c d (i + 1) more (set numbers i n) (n + 1)
      taken l e place = record {
        within = omega arith;
        numbered = below_more (λ p. (get_or (set numbers i n) p 0 < n + 1) × (name_by b c more (get_or (set numbers i n) p 0) ≡ name_at d p)) i
            (λ p k. rw (get_or-set_other numbers i p n 0 (omega arith)) (kept p k))
            (rw (get_or-set_same numbers i n 0 place) (omega arith, new ∙ e));
        before = λ u k m. after (name_at d (i + 1)) (rw e (rises i (i + 1) (omega arith) m)) u k;
      }

      left : (i < name_count d → compare_bytes (spanned b c s) (name_at d i) ≡ Less) → Passed b c d i more numbers (n + 1)
      left later = record { within = t.within; numbered = kept; before = λ u k m. after (name_at d i) (later m) u k }

-- the names before come before the next name of d
above_next : (b c d : Bytes) (i : ℕ) (spans : List Span) (numbers : List ℕ) (n : ℕ) → Passed b c d i spans numbers n → (s : Span) → i < name_count d → spanned b c s ≡ name_at d i
    → (u : ℕ) → u < n → compare_bytes (name_by b c spans u) (spanned b c s) ≡ Less
above_next b c d i spans numbers n t s more e u l = rw e (t.before u l more)

-- ------------------------------------------------------------------ how the next names compare

module _ (b c : Bytes) (i j : ℕ) where
  order_at_end : name_count c ≤ j → next_order b c i j ≡ Less
  order_at_end l = rw (le-leb (name_count c) j l)

  order_past : j < name_count c → name_count b ≤ i → next_order b c i j ≡ Greater
  order_past l m = rw (lt-leb (name_count c) j l, le-leb (name_count b) i m)

  order_within : j < name_count c → i < name_count b → next_order b c i j ≡ compare_bytes (name_at b i) (name_at c j)
  order_within l m = rw (lt-leb (name_count c) j l, lt-leb (name_count b) i m)

  pub when_less : (i < name_count b) ⊎ (j < name_count c) → next_order b c i j ≡ Less
      → (i < name_count b) × (j < name_count c → compare_bytes (name_at b i) (name_at c j) ≡ Less)
  when_less some e = go (dec_lt i (name_count b)) (dec_lt j (name_count c))
    where
      go : Dec (i < name_count b) → Dec (j < name_count c) → (i < name_count b) × (j < name_count c → compare_bytes (name_at b i) (name_at c j) ≡ Less)
      go (yes l) d = (l, λ k. sym (order_within k l) ∙ e)
      go (no l) (yes k) = absurd (let f = sym (order_past k (omega arith)) ∙ e in cc)
      go (no l) (no k) = absurd (⊎_elim l k some)

  pub when_greater : next_order b c i j ≡ Greater → (j < name_count c) × (i < name_count b → compare_bytes (name_at c j) (name_at b i) ≡ Less)
  when_greater e = go (dec_lt j (name_count c))
    where
      go : Dec (j < name_count c) → (j < name_count c) × (i < name_count b → compare_bytes (name_at c j) (name_at b i) ≡ Less)
      go (yes k) = (k, λ l. greater_less bytes_order (name_at b i) (name_at c j) (sym (order_within k l) ∙ e))
      go (no k) = absurd (let f = sym (order_at_end (omega arith)) ∙ e in cc)

  pub when_equal : next_order b c i j ≡ Equal → (i < name_count b) × (j < name_count c) × (name_at b i ≡ name_at c j)
  when_equal e = go (dec_lt i (name_count b)) (dec_lt j (name_count c))
    where
      go : Dec (i < name_count b) → Dec (j < name_count c) → (i < name_count b) × (j < name_count c) × (name_at b i ≡ name_at c j)
      go (yes l) (yes k) = (l, k, bytes_order.same (name_at b i) (name_at c j) (sym (order_within k l) ∙ e))
      go (no l) (yes k) = absurd (let f = sym (order_past k (omega arith)) ∙ e in cc)
      go d (no k) = absurd (let f = sym (order_at_end (omega arith)) ∙ e in cc)

-- ------------------------------------------------------------------ one turn

module _ (b c : Bytes) (hb : HoldsRecord b) (hc : HoldsRecord c) (spans : List Span) (first second : List ℕ) (i j n : ℕ) (t : Joining b c spans first second i j n)
    (ready : Joinable b c spans first second) where
  room_for : i + j < name_count b + name_count c → n < length spans
  room_for l = omega (arith, t.count, ready.spans_room)

  pub turn_less : (i < name_count b) ⊎ (j < name_count c) → next_order b c i j ≡ Less
      → Joining b c (set spans n (span_at 0 b i)) (set first i n) second (i + 1) j (n + 1)
  turn_less some e =
      let w = when_less b c i j some e in
      let named = first_named b c hb i w.0 in
      let above = above_next b c b i spans first n t.of_first (span_at 0 b i) w.0 named in
      let room = room_for (omega (arith, w.0, t.of_second.within)) in
      record {
        count = omega (arith, t.count);
        order = more_order b c spans n (span_at 0 b i) room above t.order;
        of_first = taken b c spans n (span_at 0 b i) room above b (name_order b hb) i first t.of_first w.0 named (omega (arith, w.0, ready.first_room));
        of_second = left b c spans n (span_at 0 b i) room above c (name_order c hc) j second t.of_second (λ k. rw named (w.1 k));
      }

  pub turn_greater : (s : Span) → s ≡ span_at (length b) c j → next_order b c i j ≡ Greater → Joining b c (set spans n s) first (set second j n) i (j + 1) (n + 1)
  turn_greater s is e =
      let w = when_greater b c i j e in
      let named : spanned b c s ≡ name_at c j = rw is (second_named b c hc j w.0) in
      let above = above_next b c c j spans second n t.of_second s w.0 named in
      let room = room_for (omega (arith, w.0, t.of_first.within)) in
      record {
        count = omega (arith, t.count);
        order = more_order b c spans n s room above t.order;
        of_first = left b c spans n s room above b (name_order b hb) i first t.of_first (λ k. rw named (w.1 k));
        of_second = taken b c spans n s room above c (name_order c hc) j second t.of_second w.0 named (omega (arith, w.0, ready.second_room));
      }

  pub turn_equal : next_order b c i j ≡ Equal → Joining b c (set spans n (span_at 0 b i)) (set first i n) (set second j n) (i + 1) (j + 1) (n + 1)
  turn_equal e =
      let w = when_equal b c i j e in
      let named = first_named b c hb i w.0 in
      let above = above_next b c b i spans first n t.of_first (span_at 0 b i) w.0 named in
      let room = room_for (omega (arith, w.0, w.1)) in
      record {
        count = omega (arith, t.count);
        order = more_order b c spans n (span_at 0 b i) room above t.order;
        of_first = taken b c spans n (span_at 0 b i) room above b (name_order b hb) i first t.of_first w.0 named (omega (arith, w.0, ready.first_room));
        of_second = taken b c spans n (span_at 0 b i) room above c (name_order c hc) j second t.of_second w.1 (named ∙ w.2) (omega (arith, w.1, ready.second_room));
      }
