-- What a field taken comes to, and how much is in use then.
use Rattle.std.specs.Prelude.{None, Result, Ok, Err, length}
use Rattle.model.specs.declared.fault.Fault.{Fault}
use Rattle.model.specs.Faults.{fault_number}
use Rattle.model.specs.Record.{GraphName}
use Rattle.model.specs.Reading.{Taken, took, wrong}
use Rattle.model.specs.Questions.{mapped}
use Rattle.sorted.specs.Loading.{sizes_of, owned}
use Rattle.intake.specs.declared.state.State.{State}

-- the graph name then, or the number of the field's fault
abbrev pub taken_of : Result Unit Fault → GraphName → Taken
taken_of (Ok u) g = took g
taken_of (Err e) g = wrong (fault_number e)

-- of the tables what the names of all pairs take, and beside them the length of the own name
abbrev pub state_of : GraphName → State
state_of g = record {
  sizes = sizes_of (owned None g);
  own = mapped length g.name;
}
