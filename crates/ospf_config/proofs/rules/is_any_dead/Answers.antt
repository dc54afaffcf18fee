use Rattle.ospf_config.specs.Tables.{IsDeadNotOverHello}
use Rattle.ospf_config.proofs.TableLists.{any_table, any_value}
use Rattle.ospf_config.proofs.rules.is_any_dead.Goals as goal

pub returns : goal.returns
returns c =
    rw (← c.interface_values.ensures.tables)
    ((λ yes. any_table IsDeadNotOverHello _ (c.is_any_value_dead.ensures.0 yes)), λ dead. c.is_any_value_dead.ensures.1 (any_value IsDeadNotOverHello _ dead))
