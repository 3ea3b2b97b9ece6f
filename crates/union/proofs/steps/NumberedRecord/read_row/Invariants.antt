-- The steps written so far are those of the first p pairs.
use Rattle.std.proofs.Common.{◌≡◌, ℕ, ◌<◌, get_or}
use Rattle.union.specs.Steps.{step_at}
use Rattle.union.proofs.steps.NumberedRecord.read_row.Given as goal

abbrev pub invariant-loop-p : goal.invariant-loop-p
invariant-loop-p l = (i : ℕ) → i < l.p → get_or l.row i 0 ≡ step_at l.self.bytes.now l.kind l.self.numbers.now i
