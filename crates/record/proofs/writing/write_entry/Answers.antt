-- Start and length, one behind the other.
use Rattle.std.proofs.Common.{arith}
use Rattle.record.proofs.Written.{entry_written}
use Rattle.record.proofs.writing.write_entry.Goals as goal

pub returns : goal.returns
returns c =
    let a = c.args in
    let u = c.write16-p in
    (omega arith, entry_written a.buffer.now _ _ a.at _ a.start a.name.now c.requires u.ensures.1 u.ensures.0 c.write16.ensures.1)
