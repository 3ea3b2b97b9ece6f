-- Each number has its text, and no other has one.
use Rattle.model.specs.Message.{error_message}
use Rattle.text.proofs.Appending.{appends_both, appends_none}
use Rattle.export.proofs.Wording.{no_message}
use Rattle.std.proofs.Common.{arith}
use Rattle.export.proofs.message.append_message.Goals as goal

pub returns-in-1 : goal.returns-in-1
unfolding error_message
returns-in-1 c = rw c.in-1.is c.append_about_line.ensures

pub returns-in-2 : goal.returns-in-2
unfolding error_message
returns-in-2 c = rw c.in-2.is (appends_both c.append_about_line-p.ensures c.append.ensures)

pub returns-in-3 : goal.returns-in-3
unfolding error_message
returns-in-3 c = rw c.in-3.is c.append_quoted.ensures

pub returns-in-4 : goal.returns-in-4
unfolding error_message
returns-in-4 c = rw c.in-4.is c.append_quoted-in-4.ensures

pub returns-in-5 : goal.returns-in-5
unfolding error_message
returns-in-5 c = rw c.in-5.is c.append_quoted-in-5.ensures

pub returns-in-6 : goal.returns-in-6
unfolding error_message
returns-in-6 c = rw c.in-6.is c.append_quoted-in-6.ensures

pub returns-in-7 : goal.returns-in-7
unfolding error_message
returns-in-7 c = rw c.in-7.is c.append_quoted-in-7.ensures

pub returns-in-8 : goal.returns-in-8
unfolding error_message
returns-in-8 c = rw c.in-8.is c.append_quoted-in-8.ensures

pub returns-in-9 : goal.returns-in-9
unfolding error_message
returns-in-9 c = rw c.in-9.is c.append_quoted-in-9.ensures

pub returns-in-10 : goal.returns-in-10
unfolding error_message
returns-in-10 c = rw c.in-10.is c.append_quoted-in-10.ensures

pub returns-in_default : goal.returns-in_default
returns-in_default c = rw (no_message c.args.number c.args.line c.args.part.now (λ h. omega arith)) (appends_none _ _ (omega arith))
