use Rattle.std.proofs.Common.{inr}
use Rattle.std.proofs.lemmas.Result.{err_from_is_err_and}
use Rattle.ospf_config.specs.Interfaces.{IsHostOf}
use Rattle.ospf_config.specs.Tables.{HasHostFault}
use Rattle.ospf_config.proofs.TableLists.{pairs_more, any_table_at}
use Rattle.ospf_config.proofs.hosts.hosts_of.Goals as goal

pub loop-value-preserved : goal.loop-value-preserved
loop-value-preserved c =
    rw c.in_ok-push.ensures.items
    (pairs_more IsHostOf c.args.values.now c.loop-value.value-index c.value-item.result _ c.loop-value.hosts.items _
    c.loop-value-test.true c.value-item.is c.table_in.ensures c.loop-value.invariant c.in_ok-host_at.ensures.ok)

pub returns-in_err-host_at-clause-fault : goal.returns-in_err-host_at-clause-fault
returns-in_err-host_at-clause-fault c =
    let p = err_from_is_err_and c.from_residual-in_err-host_at.result c.from_residual-in_err-host_at.ensures.1 in
    rw (p.1, p.2)
    (inr (any_table_at (λ t. HasHostFault t _) c.args.values.now c.loop-value.value-index c.value-item.result _ c.loop-value-test.true c.value-item.is
    c.table_in.ensures c.in_err-host_at.ensures.fault))
