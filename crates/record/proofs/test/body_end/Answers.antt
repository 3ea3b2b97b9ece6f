-- A gap or a long name ends the test, and else the next entry begins where this one ends.
use Rattle.std.proofs.Common.{arith, ap, length, ◌∙◌, sym, refl}
use Rattle.record.proofs.Steps.{body_end_none, body_end_gap, body_end_long, body_end_more, end_past, end_kept}
use Rattle.record.proofs.Words.{length_rows_at}
use Rattle.record.proofs.test.body_end.Goals as goal

pub loop-start-init : goal.loop-start-init
loop-start-init c = rw (c.into_iter-start-iterator.ensures.into_iter_gives) record {
  short = rw (c.new-start-items.ensures.value, length_rows_at) (omega arith);
  rest = rw c.new-start-items.ensures.value refl;
}

pub returns-then-start-at : goal.returns-then-start-at
returns-then-start-at c = rw (c.loop-start.invariant.rest, body_end_gap c.in-Some.ensures.steps _ c.if-start-at.true) (sym (end_past (omega arith)))

pub returns-then-size-gt-MAX_NAME_BYTES : goal.returns-then-size-gt-MAX_NAME_BYTES
returns-then-size-gt-MAX_NAME_BYTES c = rw (c.loop-start.invariant.rest, body_end_long c.in-Some.ensures.steps _ c.if-start-at.false (omega arith)) (sym (end_past (omega arith)))

pub overflow_add-at : goal.overflow_add-at
overflow_add-at c = omega (arith, c.loop-start.invariant.short, c.requires.0)

pub loop-start-preserved : goal.loop-start-preserved
loop-start-preserved c = record {
  short = omega (arith, c.loop-start.invariant.short, ap length c.in-Some.ensures.steps);
  rest = c.loop-start.invariant.rest ∙ body_end_more c.in-Some.ensures.steps _ c.if-start-at.false (omega arith);
}

pub returns : goal.returns
returns c = rw (c.loop-start.invariant.rest, body_end_none c.in-None.ensures.steps.0 _) (sym (end_kept (omega arith)))

pub returns-then-at-gt-MAX_BODIES_BYTES : goal.returns-then-at-gt-MAX_BODIES_BYTES
returns-then-at-gt-MAX_BODIES_BYTES c = rw (c.loop-start.invariant.rest, body_end_none c.in-None.ensures.steps.0 _) (sym (end_past (omega arith)))
