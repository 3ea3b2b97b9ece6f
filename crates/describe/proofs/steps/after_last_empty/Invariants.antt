-- What is listed of the names so far and those still to come is what is listed of all.
use Rattle.std.proofs.Common.{◌≡◌, length}
use Rattle.model.specs.Describe.{after_last_empty}
use Rattle.path_bytes.specs.Steps.{steps_of}
use Rattle.describe.proofs.Runs.{keeping}
use Rattle.describe.proofs.steps.after_last_empty.Given as goal

abbrev pub invariant-loop-step : goal.invariant-loop-step
invariant-loop-step l = after_last_empty (steps_of l.fn.steps) ≡ keeping (steps_of l.rest) (steps_of l.listed)

abbrev pub decreases-loop-step : goal.decreases-loop-step
decreases-loop-step l = length (steps_of l.rest)
