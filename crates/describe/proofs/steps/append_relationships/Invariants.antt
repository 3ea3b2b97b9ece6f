-- Appending the lines that are left makes the whole.
use Rattle.std.proofs.Common.{◌≡◌, ◌+◌, length}
use Rattle.model.specs.Describe.{step_lines}
use Rattle.text.proofs.Appending.{Rest}
use Rattle.path_bytes.specs.Steps.{steps_of}
use Rattle.describe.proofs.steps.append_relationships.Given as goal

abbrev pub invariant-loop-i : goal.invariant-loop-i
invariant-loop-i l = record {
  numbers : l.i-iterator.count + length (steps_of l.i-iterator.iter) ≡ length (steps_of l.fn.steps);
  rest : Rest l.fn.out l.at (step_lines 1 (steps_of l.fn.steps)) l.out l.q (step_lines (l.i-iterator.count + 1) (steps_of l.i-iterator.iter));
  goes : (goal.iterator-loop-i).can_next l.i-iterator × (goal.iterator-loop-i).is_finite l.i-iterator;
}
