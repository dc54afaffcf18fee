use Rattle.ospf_config.proofs.address.dotted_number.Goals as goal

pub returns-in-Err-clause-none : goal.returns-in-Err-clause-none
returns-in-Err-clause-none c n spelled = c.in-Err.ensures.value (record { 0 = n }) spelled
