use Rattle.std.proofs.Common.{Ok, inr}
use Rattle.std.proofs.lemmas.Result.{err_from_is_err_and}
use Rattle.ospf_config.specs.Keys.{ReadsInterfaceAddress}
use Rattle.ospf_config.specs.Tables.{HasInterfaceFault, in_address}
use Rattle.ospf_config.proofs.TableLists.{pairs_more, any_table_at}
use Rattle.ospf_config.proofs.rules.addresses_of.Goals as goal

pub loop-value-preserved : goal.loop-value-preserved
loop-value-preserved c =
    rw c.in_ok-push.ensures.items
    (pairs_more (λ t a. ReadsInterfaceAddress c.args.rfc3021 t (Ok a)) c.args.values.now c.loop-value.value-index c.value-item.result _ c.loop-value.addresses.items _
    c.loop-value-test.true c.value-item.is c.table_in.ensures c.loop-value.invariant c.in_ok-address_at.ensures)

pub returns-in_err-address_at-clause-fault : goal.returns-in_err-address_at-clause-fault
returns-in_err-address_at-clause-fault c =
    let p = err_from_is_err_and c.from_residual-in_err-address_at.result c.from_residual-in_err-address_at.ensures.1 in
    rw (p.1, p.2)
    (inr (any_table_at (λ t. HasInterfaceFault c.args.rfc3021 t _) c.args.values.now c.loop-value.value-index c.value-item.result _ c.loop-value-test.true c.value-item.is
    c.table_in.ensures (in_address c.in_err-address_at.ensures)))
