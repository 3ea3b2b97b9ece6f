-- Four numbers, one behind the other.
use Rattle.std.proofs.Common.{arith}
use Rattle.record.proofs.Written.{counts_written}
use Rattle.record.proofs.writing.write_counts.Goals as goal

pub returns : goal.returns
returns c =
    let a = c.args in
    let s = c.write16-a in
    let t = c.write16-b in
    let u = c.write16-c in (
      omega arith,
      counts_written a.buffer.now _ _ _ _ s.result t.result u.result a.head.names a.head.own a.head.subgraph a.head.translation c.requires s.ensures.1 s.ensures.0 t.ensures.1 t.ensures.0 u.ensures.1 u.ensures.0 c.write16.ensures.1,
    )
