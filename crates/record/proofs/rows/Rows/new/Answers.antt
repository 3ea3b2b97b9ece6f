-- Two bytes are a number below 65536.
use Rattle.std.proofs.Common.{arith}
use Rattle.model.specs.Layout.{pair_length}
use Rattle.record.proofs.Words.{under_rows, bytes_drop}
use Rattle.record.proofs.rows.Rows.new.Goals as goal

pub returns-clause-small : goal.returns-clause-small
returns-clause-small c = under_rows pair_length c.args.count _ (bytes_drop c.args.at c.args.bytes.now (λ i. omega (arith, c.type_inv.bytes i)))
