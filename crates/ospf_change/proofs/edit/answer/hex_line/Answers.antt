use Rattle.std.proofs.Common.{arith}
use Rattle.ospf_change.proofs.edit.answer.hex_line.Goals as goal

pub returns-in_err-line-clause-bytes : goal.returns-in_err-line-clause-bytes
returns-in_err-line-clause-bytes c = λ i. omega (arith, c.type_inv.bytes i)

pub returns-in_err-push_str-clause-bytes : goal.returns-in_err-push_str-clause-bytes
returns-in_err-push_str-clause-bytes c = λ i. omega (arith, c.type_inv.bytes i)

pub returns-clause-bytes : goal.returns-clause-bytes
returns-clause-bytes c = λ i. omega (arith, c.type_inv.bytes i)
