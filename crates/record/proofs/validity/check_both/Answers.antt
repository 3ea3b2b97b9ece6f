-- A wrong length decides before the contents.
use borrow.Author.Tests.{ne_eqb}
use Rattle.record.proofs.Opening.{checks_tested}
use Rattle.record.proofs.validity.check_both.Goals as goal

pub returns-then-b-ne-RECORD_LENGTH : goal.returns-then-b-ne-RECORD_LENGTH
returns-then-b-ne-RECORD_LENGTH c = rw (checks_tested c.args.b.now c.args.c.now, ne_eqb _ _ c.if-b-ne-RECORD_LENGTH.true)
