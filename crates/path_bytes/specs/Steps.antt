-- What a run of steps stands for.
use Rattle.std.specs.Prelude.{List}
use Rattle.model.specs.Describe.{StepFrom}
use Rattle.path_bytes.specs.declared.reading.StepFrom as code
use Rattle.path_bytes.specs.declared.reading.Steps.{Steps}
use Rattle.path_bytes.specs.Reading.{steps_at}

abbrev pub step_of : code.StepFrom → StepFrom
step_of s = record { name = s.name.now; kind = s.kind }

abbrev pub steps_of : Steps → List StepFrom
steps_of s = steps_at s.path.now s.entry s.body s.count
