-- The part that a span stands for, of the first byte string or of the second, and its length.
use mathlib.Core.Path.{◌≡◌, ◌∙◌}
use Prim.Native.Nat.{ℕ, ◌+◌, ◌-◌, ◌≤◌, ◌<◌}
use native.Mathlib.Decide.{dec_lt}
use native.Mathlib.Omega.{arith}
use lib.ListN.{length, take, drop, length-take}
use borrow.Author.Tests.{lt-ltb, le-ltb}
use Rattle.model.specs.Bytes.{Bytes}
use Rattle.search.specs.declared.names.Span.{Span}
use Rattle.search.specs.Spans.{spanned}

module _ (b c : Bytes) (s : Span) where
  pub spanned_first : s.start < length b → spanned b c s ≡ take s.size (drop s.start b)
  unfolding spanned
  spanned_first l = rw (lt-ltb s.start (length b) l)

  pub spanned_second : length b ≤ s.start → spanned b c s ≡ take s.size (drop (s.start - length b) c)
  unfolding spanned
  spanned_second l = rw (le-ltb s.start (length b) l)

  -- a span that ends in the first
  pub span_in_first : s.start + s.size ≤ length b → spanned b c s ≡ take s.size (drop s.start b)
  span_in_first l = go (dec_lt s.start (length b))
    where
      go : Dec (s.start < length b) → spanned b c s ≡ take s.size (drop s.start b)
      go (yes o) = spanned_first o
      go (no o) =
          let none : s.size ≡ 0 = omega arith in
          spanned_second (omega arith) ∙ rw none

  -- or that lies in the second, from byte `start` on
  pub span_in_second : (start : ℕ) → s.start ≡ length b + start → spanned b c s ≡ take s.size (drop start c)
  span_in_second start e =
      let f : s.start - length b ≡ start = omega arith in
      rw f at (spanned_second (omega arith))

pub part_short : (n at : ℕ) (b : Bytes) → length (take n (drop at b)) ≤ n
part_short n at b = rw (length-take n (drop at b)) (omega arith)

pub ruleset parts = (spanned_first, spanned_second, part_short)
