use Rattle.std.proofs.Common.{codes, inl, inr, arith}
use Rattle.std.proofs.lemmas.Result.{err_from_is_err_and}
use Rattle.toml.specs.View.{table_view}
use Rattle.toml.specs.Data.{get_member}
use Rattle.ospf_config.specs.declared.fault.ConfigFault.TheVariants as fault
use Rattle.ospf_config.specs.Interfaces.{IsInterfaceOf}
use Rattle.ospf_config.specs.Keys.{asks_rfc3021}
use Rattle.ospf_config.specs.Tables.{IsDeadNotOverHello, in_router_id, in_area, in_stub_router, in_other_lsas, in_interface, in_host, interface_tables}
use Rattle.ospf_config.proofs.ConflictLists.{interfaces_apart, pairs_length}
use Rattle.ospf_config.proofs.FaultLemmas.{key_has}
use Rattle.ospf_config.proofs.HostLists.{host_number}
use Rattle.ospf_config.proofs.PassiveLists.{both_lengths, same_prefix_of_all, stubs_length}
use Rattle.ospf_config.proofs.TableLists.{any_table, in_number}
use Rattle.ospf_config.proofs.read.config_at.Goals as goal

pub returns-in_err-router_id-clause-fault : goal.returns-in_err-router_id-clause-fault
returns-in_err-router_id-clause-fault c =
    let p = err_from_is_err_and c.from_residual.result c.from_residual.ensures.1 in
    rw (p.1, p.2) (absurd (c.requires _ (key_has (table_view c.args.table.now) _ (inl (in_router_id c.in_err-router_id.ensures.reads)))))

pub returns-in_err-area-clause-fault : goal.returns-in_err-area-clause-fault
returns-in_err-area-clause-fault c =
    let p = err_from_is_err_and c.from_residual-in_err-area.result c.from_residual-in_err-area.ensures.1 in
    rw (p.1, p.2) (absurd (c.requires _ (key_has (table_view c.args.table.now) _ (inl (in_area c.in_err-area.ensures)))))

pub returns-in_err-stub_router-clause-fault : goal.returns-in_err-stub_router-clause-fault
returns-in_err-stub_router-clause-fault c =
    let p = err_from_is_err_and c.from_residual-in_err-stub_router.result c.from_residual-in_err-stub_router.ensures.1 in
    rw (p.1, p.2) (absurd (c.requires _ (key_has (table_view c.args.table.now) _ (inl (in_stub_router c.in_err-stub_router.ensures)))))

pub returns-in_err-passes_over-clause-fault : goal.returns-in_err-passes_over-clause-fault
returns-in_err-passes_over-clause-fault c =
    let p = err_from_is_err_and c.from_residual-in_err-passes_over.result c.from_residual-in_err-passes_over.ensures.1 in
    rw (p.1, p.2) (absurd (c.requires _ (key_has (table_view c.args.table.now) _ (inl (in_other_lsas c.in_err-passes_over.ensures)))))

pub returns-in_err-interfaces-clause-fault : goal.returns-in_err-interfaces-clause-fault
returns-in_err-interfaces-clause-fault c =
    let p = err_from_is_err_and c.from_residual-in_err-interfaces.result c.from_residual-in_err-interfaces.ensures.1 in
    rw (p.1, p.2)
    (elim c.in_err-interfaces.ensures.fault [
      | inl memory ↦ memory
      | inr found ↦ absurd (c.requires _ (key_has (table_view c.args.table.now) _ (inr (inl (rw (c.interface_values-values.ensures.tables, c.asks_rfc3021-rfc3021.ensures) at found)))))
    ])

pub returns-in_err-stubs-clause-fault : goal.returns-in_err-stubs-clause-fault
returns-in_err-stubs-clause-fault c =
    let p = err_from_is_err_and c.from_residual-in_err-stubs.result c.from_residual-in_err-stubs.ensures.1 in
    rw (p.1, p.2)
    (elim c.in_err-stubs.ensures.fault [
      | inl memory ↦ memory
      | inr (inl found) ↦ absurd (c.requires _ (key_has (table_view c.args.table.now) _ (inr (inl (rw (c.interface_values-values.ensures.tables, c.asks_rfc3021-rfc3021.ensures) at found)))))
      | inr (inr found) ↦ absurd (c.requires _ (key_has (table_view c.args.table.now) _ (inr (inr (rw c.host_values.ensures.tables at found)))))
    ])

pub interfaces_of-requires-clause-hellos : goal.interfaces_of-requires-clause-hellos
interfaces_of-requires-clause-hellos c dead =
    let found = any_table IsDeadNotOverHello _ dead in
    c.requires fault.DeadNotOverHello (rw c.interface_values-values.ensures.tables at found)

pub invariant_of-result : goal.invariant_of-result
invariant_of-result c =
    let t = table_view c.args.table.now in
    let pairs = rw (c.interface_values-values.ensures.tables, c.asks_rfc3021-rfc3021.ensures) at c.in_ok-interfaces.ensures.ok in
    let stubs = rw (c.interface_values-values.ensures.tables, c.asks_rfc3021-rfc3021.ensures, c.host_values.ensures.tables) at c.in_ok-stubs.ensures.ok in
    let number = in_number (get_member (codes "interface") t) (λ f h. c.requires f (key_has t f (inl (in_interface h)))) in
    let both = both_lengths (interface_tables t) in
    let long = pairs_length (IsInterfaceOf (asks_rfc3021 t)) _ _ pairs in
    let few = host_number (get_member (codes "host") t) (λ f h. c.requires f (key_has t f (inl (in_host h)))) in
    let count = stubs_length (asks_rfc3021 t) _ _ _ stubs in
    record {
      router_id_not_zero = c.in_ok-router_id.ensures.range;
      some_interface = omega (arith, number, long);
      few_interfaces = omega (arith, number, long, both);
      few_stubs = omega (arith, number, few, both, count);
      no_conflict = interfaces_apart _ _ _ pairs (λ same. c.requires fault.SamePrefix (inl (same_prefix_of_all _ _ _ same)));
    }
