-- The names of a record, in the order of their places, and the spans that they have.
use mathlib.Core.Path.{◌≡◌, ◌∙◌}
use mathlib.Core.List.{[]}
use Prim.Native.Nat.{ℕ, ◌+◌, ◌<◌}
use native.Mathlib.Omega.{arith}
use lib.ListN.{length}
use Rattle.model.specs.Bytes.{Bytes}
use Rattle.model.specs.Record.{names}
use Rattle.model.specs.Layout.{name_count, bodies_at, body_start, body_length, name_at, shown}
use Rattle.text.proofs.Order.{bytes_order}
use Rattle.text.proofs.Places.{ascending_get_or}
use Rattle.record.specs.Holds.{HoldsRecord}
use Rattle.record.proofs.Names.{names_ascending}
use Rattle.record.proofs.Access.{record_count, record_name, name_within}
use Rattle.search.specs.Extent.{span_lengths}
use Rattle.search.specs.Spans.{spanned}
use Rattle.search.specs.Names.{InOrder}
use Rattle.search.proofs.Spanning.{span_in_first, span_in_second}
use Rattle.union.specs.Names.{span_at}

pub name_order : (b : Bytes) → HoldsRecord b → InOrder (name_at b) (name_count b)
name_order b r p q l m =
    let n : q < length (names (shown b)) = omega (arith, record_count b (shown b) r.decoded) in
    rw (← record_name b (shown b) r.decoded p (omega arith), ← record_name b (shown b) r.decoded q m)
    (ascending_get_or bytes_order [] (names (shown b)) p q (names_ascending (shown b)) l n)

-- a name is no longer than a span may be
pub name_short : {b : Bytes} → HoldsRecord b → (p : ℕ) → p < name_count b → body_length b p < span_lengths
name_short r p l = omega (arith, (name_within _ _ r.decoded p l).1)

-- the span of a name of the first, and of one of the second behind it
module _ (b c : Bytes) where
  pub first_named : HoldsRecord b → (p : ℕ) → p < name_count b → spanned b c (span_at 0 b p) ≡ name_at b p
  unfolding name_at
  first_named r p l =
      let w = name_within b (shown b) r.decoded p l in
      let z : 0 + (bodies_at b + body_start b p) ≡ bodies_at b + body_start b p = omega arith in
      span_in_first b c (span_at 0 b p) (omega (arith, w.0, r.long)) ∙ rw z

  pub second_named : HoldsRecord c → (p : ℕ) → p < name_count c → spanned b c (span_at (length b) c p) ≡ name_at c p
  unfolding name_at
  second_named r p l = span_in_second b c (span_at (length b) c p) (bodies_at c + body_start c p) (omega arith)
