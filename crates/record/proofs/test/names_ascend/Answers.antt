-- The last name read comes before the next, or is the last of all.
use Rattle.std.proofs.Common.{◌∙◌, sym, arith, ap, length, drop}
use Rattle.model.specs.Bytes.{compare_bytes}
use Rattle.model.specs.Record.{ascends}
use Rattle.model.specs.Layout.{counts_length, pair_length}
use Rattle.record.proofs.Steps.{cut_more, ascends_none, ascends_last, ascends_more, under_more}
use Rattle.record.proofs.Words.{length_rows_at}
use Rattle.record.proofs.test.names_ascend.Goals as goal

pub returns-in_default : goal.returns-in_default
returns-in_default c = rw (← c.new-rest.ensures.value) (sym (ascends_none c.in_default.ensures.steps.0 _))

pub loop-next-init : goal.loop-next-init
loop-next-init c =
    let e = sym c.new-rest.ensures.value ∙ c.in-Some.ensures.steps in
    let u = under_more c.in-Some.ensures.steps 65536 c.new-rest.ensures.small in
    rw c.into_iter-next-iterator.ensures.into_iter_gives record {
      size = u.1;
      under = u.2;
      bounded = omega (arith, ap length e, length_rows_at pair_length c.args.n (drop counts_length c.args.b.now));
      rest = ap (ascends compare_bytes) (cut_more e c.args.bodies c.args.b.now);
    }

pub overflow_add-at : goal.overflow_add-at
overflow_add-at c = omega (arith, c.loop-next.invariant.bounded, c.loop-next.invariant.size, c.requires.0, c.requires.2)

pub returns-then-not-is_less : goal.returns-then-not-is_less
returns-then-not-is_less c =
    sym (c.loop-next.invariant.rest ∙ ascends_more c.loop-next.at c.loop-next.size c.args.b.now c.in-Some-2.ensures.steps
    ∙ rw (← c.part.ensures, ← c.part-in-loop-next.ensures, ← c.is_less.ensures, c.if-not-is_less.true))

pub overflow_add-at-in-loop-next : goal.overflow_add-at-in-loop-next
overflow_add-at-in-loop-next c = omega (arith, c.loop-next.invariant.bounded, c.loop-next.invariant.size, c.requires.0, c.requires.2)

pub loop-next-preserved : goal.loop-next-preserved
loop-next-preserved c =
    let l = c.loop-next.invariant in
    let u = under_more c.in-Some-2.ensures.steps 65536 l.under in
    record {
      size = omega (arith, u.1);
      under = u.2;
      bounded = omega (arith, l.bounded, l.size, ap length c.in-Some-2.ensures.steps);
      rest = l.rest ∙ ascends_more c.loop-next.at c.loop-next.size c.args.b.now c.in-Some-2.ensures.steps
          ∙ rw (← c.part.ensures, ← c.part-in-loop-next.ensures, ← c.is_less.ensures, c.if-not-is_less.false);
    }

pub returns : goal.returns
returns c = sym (c.loop-next.invariant.rest ∙ ascends_last c.loop-next.at c.loop-next.size c.args.b.now c.in-None.ensures.steps.0)
