use Rattle.std.proofs.Common.{◌⊎◌, Err, inl, inr}
use Rattle.toml.specs.Data.{Members}
use Rattle.toml.specs.View.{table_view}
use Rattle.ospf_config.specs.declared.fault.ConfigFault.{ConfigFault}
use Rattle.ospf_config.specs.Keys.{ReadsHostAddress, ReadsHostCost}
use Rattle.ospf_config.specs.Tables.{HasHostFault, in_host_address, in_host_cost}
use Rattle.ospf_config.proofs.Least.{least_both, least_same, least_error}
use Rattle.ospf_config.proofs.Singles.{host_address_single, host_cost_single}
use Rattle.ospf_config.proofs.hosts.host_fault.Goals as goal

abbrev Parts : Members → ConfigFault → Type 0
Parts t f = ReadsHostAddress t (Err f) ⊎ ReadsHostCost t (Err f)

to_host : (t : Members) (f : ConfigFault) → Parts t f → HasHostFault t f
to_host t f (inl h) = in_host_address h
to_host t f (inr h) = in_host_cost h

from_host : (t : Members) (f : ConfigFault) → HasHostFault t f → Parts t f
from_host t f (in_host_address h) = inl h
from_host t f (in_host_cost h) = inr h

pub returns : goal.returns
returns c =
    let t = table_view c.args.table.now in
    let address = least_error (ReadsHostAddress t) (host_address_single t) c.host_address_at.result c.err.result c.host_address_at.ensures c.err.ensures.value in
    let cost = least_error (ReadsHostCost t) (host_cost_single t) c.host_cost_at.result c.err-2.result c.host_cost_at.ensures c.err-2.ensures.value in
    rw c.earlier.ensures (least_same _ _ _ (to_host t) (from_host t) (least_both _ _ _ _ address cost))
