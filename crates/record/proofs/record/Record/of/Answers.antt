-- It is the record that the buffer shows.
use Rattle.std.proofs.Common.{arith}
use Rattle.record.proofs.Meaning.{record_known}
use Rattle.record.proofs.record.Record.of.Goals as goal

pub open-requires : goal.open-requires
open-requires c = omega (arith, (record_known c.args.b.now c.requires).long)

pub invariant_of-result : goal.invariant_of-result
invariant_of-result c = record { holds = rw (c.open.ensures) (record_known c.args.b.now c.requires); head = c.open.result.counts }
