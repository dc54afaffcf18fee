use Rattle.std.specs.Prelude.{Any}
use Rattle.toml.specs.View.{table_view}
use Rattle.ospf_config.specs.Fault.{IsLeastIfAny}
use Rattle.ospf_config.specs.Keys.{asks_rfc3021}
use Rattle.ospf_config.specs.Tables.{HasInterfaceFault, HasHostFault, HasTopFault, interface_tables, host_tables}
use Rattle.ospf_config.proofs.Least.{least_both, least_same}
use Rattle.ospf_config.proofs.TableLists.{any_value, any_table}
use Rattle.ospf_config.proofs.faults.key_fault.Goals as goal

pub returns : goal.returns
returns c =
    let t = table_view c.args.table.now in
    let q = asks_rfc3021 t in
    let vs = c.interface_values.result.now in
    let hs = c.host_values.result.now in
    let least = rw c.asks_rfc3021.ensures at c.interfaces_fault-interfaces.ensures in
    let interfaces : IsLeastIfAny (λ f. Any (λ i. HasInterfaceFault q i f) (interface_tables t)) c.interfaces_fault-interfaces.result =
    rw (← c.interface_values.ensures.tables) (least_same _ _ _ (λ f. any_table (λ i. HasInterfaceFault q i f) vs) (λ f. any_value (λ i. HasInterfaceFault q i f) vs) least) in
    let hosts : IsLeastIfAny (λ f. Any (λ h. HasHostFault h f) (host_tables t)) c.hosts_fault-hosts.result =
    rw (← c.host_values.ensures.tables) (least_same _ _ _ (λ f. any_table (λ h. HasHostFault h f) hs) (λ f. any_value (λ h. HasHostFault h f) hs) c.hosts_fault-hosts.ensures) in
    rw (c.earlier-2.ensures, c.earlier.ensures) (least_both (HasTopFault t) _ _ _ c.top_fault.ensures (least_both _ _ _ _ interfaces hosts))
