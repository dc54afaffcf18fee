use Rattle.std.proofs.Common.{◌≡◌, true, false, inr, sym, ◌∙◌}
use Rattle.std.proofs.lemmas.Result.{err_from_is_err_and}
use Rattle.toml.specs.View.{table_view}
use Rattle.ospf_config.specs.Interfaces.{IsStubNetworkOf}
use Rattle.ospf_config.specs.Keys.{is_passive}
use Rattle.ospf_config.specs.Tables.{HasInterfaceFault}
use Rattle.ospf_config.proofs.PassiveLists.{pairs_kept, pairs_left}
use Rattle.ospf_config.proofs.TableLists.{any_table_at}
use Rattle.ospf_config.proofs.passive.networks_of.Goals.{then-is_passive+in_ok-network_at+in_ok-push, else-is_passive}
use Rattle.ospf_config.proofs.passive.networks_of.Goals as goal

pub loop-value-preserved : goal.loop-value-preserved
loop-value-preserved c =
    let vs = c.args.values.now in
    let i = c.loop-value.value-index in
    let t = table_view c.table_in-table.result.now in
    elim c.if-is_passive.branch [
      | then-is_passive+in_ok-network_at+in_ok-push w ↦
          (let passive : is_passive t ≡ true = sym c.is_passive.ensures ∙ w.if-is_passive.true in
          rw (w.networks-is, w.in_ok-push.ensures.items)
          (pairs_kept is_passive (IsStubNetworkOf c.args.rfc3021) vs i c.value-item.result t c.loop-value.networks.items c.loop-value-test.true
          c.value-item.is c.table_in-table.ensures passive _ c.loop-value.invariant w.in_ok-network_at.ensures.ok))
      | else-is_passive w ↦
          (let active : is_passive t ≡ false = sym c.is_passive.ensures ∙ w.if-is_passive.false in
          rw w.networks-is
          (pairs_left is_passive (IsStubNetworkOf c.args.rfc3021) vs i c.value-item.result t c.loop-value.networks.items c.loop-value-test.true
          c.value-item.is c.table_in-table.ensures active c.loop-value.invariant))
    ]

pub returns-in_err-network_at-clause-fault : goal.returns-in_err-network_at-clause-fault
returns-in_err-network_at-clause-fault c =
    let p = err_from_is_err_and c.from_residual.result c.from_residual.ensures.1 in
    rw (p.1, p.2)
    (inr (any_table_at (λ t. HasInterfaceFault c.args.rfc3021 t _) c.args.values.now c.loop-value.value-index c.value-item.result _ c.loop-value-test.true c.value-item.is
    c.table_in-table.ensures c.in_err-network_at.ensures.fault))
