use Rattle.std.proofs.Common.{◌∙◌, arith}
use Rattle.ospf_config.proofs.AddressTexts.{read_is_decimal, no_read_no_decimal, decimal_begins}
use Rattle.ospf_config.proofs.address.length_of.Goals as goal

pub returns-in-Ok-clause-some : goal.returns-in-Ok-clause-some
returns-in-Ok-clause-some c =
    let same = c.as_bytes.ensures.value in
    (read_is_decimal c.args.text.now c.in-Ok.length _ c.in-Ok.is c.parse.ensures.value.0 (rw (← same) (omega arith)) (rw (← same) (omega arith)), omega arith)

pub returns-in-Err-clause-none : goal.returns-in-Err-clause-none
returns-in-Err-clause-none c n low high spelled =
    no_read_no_decimal c.args.text.now n _ _ c.in-Err.is c.parse.ensures.value.0 (omega arith) (omega arith) spelled

pub returns-in_default-clause-none : goal.returns-in_default-clause-none
returns-in_default-clause-none c n low high spelled =
    let begins = decimal_begins c.as_bytes.result.now n low high (c.as_bytes.ensures.value ∙ spelled) in omega (arith, begins)

pub returns-in_default-2-clause-none : goal.returns-in_default-2-clause-none
returns-in_default-2-clause-none c n low high spelled =
    let begins = decimal_begins c.as_bytes.result.now n low high (c.as_bytes.ensures.value ∙ spelled) in omega (arith, begins)

pub returns-in_default-3-clause-none : goal.returns-in_default-3-clause-none
returns-in_default-3-clause-none c n low high spelled =
    let begins = decimal_begins c.as_bytes.result.now n low high (c.as_bytes.ensures.value ∙ spelled) in omega (arith, begins)
