-- The invariant: what is left decides, with the graph name so far (`Ongoing`). The measure is what is left of the text.
use Rattle.std.proofs.Common.{◌-◌, ◌+◌, length}
use Rattle.fields.specs.Rest.{first_stop, rest_of}
use Rattle.parse.proofs.Ongoing.{Ongoing}
use Rattle.parse.proofs.reading.read_text.Given as goal

abbrev pub invariant-loop-field : goal.invariant-loop-field
invariant-loop-field l =
    let i = l.fn in
    Ongoing i.text (rest_of i.source i.text 0 (first_stop i.source i.text) 0 i.state) l.state l.fields l.tally

abbrev pub decreases-loop-field : goal.decreases-loop-field
decreases-loop-field l = length l.text + 1 - l.fields.at
