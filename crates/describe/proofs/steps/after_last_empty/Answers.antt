-- A step from an empty name begins the list anew, and another leaves it.
use mathlib.Core.Path.{sym, ◌∙◌}
use Rattle.path_bytes.specs.Steps.{step_of, steps_of}
use Rattle.describe.proofs.Runs.{keeping_start, keeping_empty, keeping_full, empty_by_length}
use Rattle.describe.proofs.steps.after_last_empty.Goals as goal

pub loop-step-init : goal.loop-step-init
loop-step-init c = keeping_start _

pub loop-step-preserved-then-is_empty : goal.loop-step-preserved-then-is_empty
loop-step-preserved-then-is_empty c =
    c.loop-step.invariant ∙ rw c.in-Some.ensures.steps (keeping_empty (step_of c.in-Some.step) (steps_of c.next.new.self) _ (empty_by_length _ _ c.if-is_empty.ensures))

pub loop-step-preserved : goal.loop-step-preserved
loop-step-preserved c = c.loop-step.invariant ∙ rw c.in-Some.ensures.steps (keeping_full (step_of c.in-Some.step) (steps_of c.next.new.self) _ (empty_by_length _ _ c.if-is_empty.ensures))

pub returns : goal.returns
returns c = rw c.in_default.ensures.steps.0 at (sym c.loop-step.invariant)
