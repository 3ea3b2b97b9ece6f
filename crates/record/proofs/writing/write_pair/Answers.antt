-- Two numbers, one behind the other.
use Rattle.std.proofs.Common.{arith}
use Rattle.record.proofs.Written.{pair_written}
use Rattle.record.proofs.writing.write_pair.Goals as goal

pub returns : goal.returns
returns c =
    let a = c.args in
    let u = c.write16-p in
    (omega arith, pair_written a.buffer.now _ _ a.at _ a.from a.to c.requires u.ensures.1 u.ensures.0 c.write16.ensures.1)
