use Rattle.ospf_config.specs.Tables.{HasHostFault}
use Rattle.ospf_config.proofs.Least.{least_same}
use Rattle.ospf_config.proofs.TableLists.{with_table, table_with}
use Rattle.ospf_config.proofs.hosts.value_fault.Goals as goal

pub returns-in-Some : goal.returns-in-Some
returns-in-Some c =
    least_same _ _ c.host_fault.result (λ f. with_table (λ t. HasHostFault t f) _ _ c.in-Some.ensures) (λ f. table_with (λ t. HasHostFault t f) _ _ c.in-Some.ensures) c.host_fault.ensures
