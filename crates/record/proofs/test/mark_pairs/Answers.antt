-- The first pair left is marked.
use Rattle.std.proofs.Common.{length-set, arith, ◌∙◌, sym, refl}
use Rattle.record.proofs.Steps.{marks_none, marks_more, under_more}
use Rattle.record.proofs.test.mark_pairs.Goals as goal

pub loop-from-init : goal.loop-from-init
loop-from-init c = rw c.into_iter-from-iterator.ensures.into_iter_gives record { under = c.requires; rest = refl }

pub bounds-used-from : goal.bounds-used-from
bounds-used-from c = omega (arith, (under_more c.in-Some.ensures.steps _ c.loop-from.invariant.under).0)

pub bounds-used-to : goal.bounds-used-to
bounds-used-to c = simp length-set (omega (arith, (under_more c.in-Some.ensures.steps _ c.loop-from.invariant.under).1))

pub loop-from-preserved : goal.loop-from-preserved
loop-from-preserved c = record {
  under = (under_more c.in-Some.ensures.steps _ c.loop-from.invariant.under).2;
  rest = sym (marks_more c.in-Some.ensures.steps _) ∙ c.loop-from.invariant.rest;
}

pub returns : goal.returns
returns c = sym (marks_none c.in-None.ensures.steps.0 _) ∙ c.loop-from.invariant.rest
