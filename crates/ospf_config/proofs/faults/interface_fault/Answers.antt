use Rattle.std.proofs.Common.{◌⊎◌, Bool, Err, inl, inr}
use Rattle.toml.specs.Data.{Members}
use Rattle.toml.specs.View.{table_view}
use Rattle.ospf_config.specs.declared.fault.ConfigFault.{ConfigFault}
use Rattle.ospf_config.specs.Keys.{ReadsKind, ReadsInterfaceAddress, ReadsHello, ReadsDead, ReadsRetransmit, ReadsTransmitDelay, ReadsCost, ReadsPriority, ReadsMtu, ReadsPort, ReadsPeers, ReadsPassive, ReadsPrefixSuppression}
use Rattle.ospf_config.specs.Tables.{HasInterfaceFault, in_kind, in_address, in_hello, in_dead, in_retransmit, in_transmit_delay, in_cost, in_priority, in_mtu, in_port, in_peers, in_passive, in_prefix_suppression}
use Rattle.ospf_config.proofs.Least.{least_both, least_same, least_error, least_fault}
use Rattle.ospf_config.proofs.Singles.{kind_single, address_single, hello_single, dead_single, retransmit_single, transmit_delay_single, only_cost, priority_single, mtu_single, port_single, peers_single, passive_single, prefix_suppression_single}
use Rattle.ospf_config.proofs.faults.interface_fault.Goals as goal

abbrev Texts : Bool → Members → ConfigFault → Type 0
Texts q t f = ReadsKind t (Err f) ⊎ ReadsInterfaceAddress q t (Err f)

abbrev Times : Members → ConfigFault → Type 0
Times t f = (ReadsHello t (Err f) ⊎ ReadsDead t (Err f)) ⊎ (ReadsRetransmit t (Err f) ⊎ ReadsTransmitDelay t (Err f))

abbrev Sizes : Members → ConfigFault → Type 0
Sizes t f = (ReadsCost t (Err f) ⊎ ReadsPriority t (Err f)) ⊎ ReadsMtu t (Err f)

abbrev Ports : Members → ConfigFault → Type 0
Ports t f = (ReadsPort t (Err f) ⊎ ReadsPeers t (Err f)) ⊎ (ReadsPassive t (Err f) ⊎ ReadsPrefixSuppression t (Err f))

abbrev Parts : Bool → Members → ConfigFault → Type 0
Parts q t f = (Texts q t f ⊎ Times t f) ⊎ (Sizes t f ⊎ Ports t f)

to_interface : (q : Bool) (t : Members) (f : ConfigFault) → Parts q t f → HasInterfaceFault q t f
to_interface q t f (inl (inl (inl h))) = in_kind h
to_interface q t f (inl (inl (inr h))) = in_address h
to_interface q t f (inl (inr (inl (inl h)))) = in_hello h
to_interface q t f (inl (inr (inl (inr h)))) = in_dead h
to_interface q t f (inl (inr (inr (inl h)))) = in_retransmit h
to_interface q t f (inl (inr (inr (inr h)))) = in_transmit_delay h
to_interface q t f (inr (inl (inl (inl h)))) = in_cost h
to_interface q t f (inr (inl (inl (inr h)))) = in_priority h
to_interface q t f (inr (inl (inr h))) = in_mtu h
to_interface q t f (inr (inr (inl (inl h)))) = in_port h
to_interface q t f (inr (inr (inl (inr h)))) = in_peers h
to_interface q t f (inr (inr (inr (inl h)))) = in_passive h
to_interface q t f (inr (inr (inr (inr h)))) = in_prefix_suppression h

from_interface : (q : Bool) (t : Members) (f : ConfigFault) → HasInterfaceFault q t f → Parts q t f
from_interface q t f (in_kind h) = inl (inl (inl h))
from_interface q t f (in_address h) = inl (inl (inr h))
from_interface q t f (in_hello h) = inl (inr (inl (inl h)))
from_interface q t f (in_dead h) = inl (inr (inl (inr h)))
from_interface q t f (in_retransmit h) = inl (inr (inr (inl h)))
from_interface q t f (in_transmit_delay h) = inl (inr (inr (inr h)))
from_interface q t f (in_cost h) = inr (inl (inl (inl h)))
from_interface q t f (in_priority h) = inr (inl (inl (inr h)))
from_interface q t f (in_mtu h) = inr (inl (inr h))
from_interface q t f (in_port h) = inr (inr (inl (inl h)))
from_interface q t f (in_peers h) = inr (inr (inl (inr h)))
from_interface q t f (in_passive h) = inr (inr (inr (inl h)))
from_interface q t f (in_prefix_suppression h) = inr (inr (inr (inr h)))

pub returns : goal.returns
returns c =
    let t = table_view c.args.table.now in
    let q = c.args.rfc3021 in
    let kind = least_error (ReadsKind t) (kind_single t) c.kind_at.result c.err.result c.kind_at.ensures c.err.ensures.value in
    let address = least_error (ReadsInterfaceAddress q t) (address_single t q) c.address_at.result c.err-2.result c.address_at.ensures c.err-2.ensures.value in
    let hello = least_error (ReadsHello t) (hello_single t) c.hello_at.result c.err-3.result c.hello_at.ensures.reads c.err-3.ensures.value in
    let dead = least_error (ReadsDead t) (dead_single t) c.dead_at.result c.err-4.result c.dead_at.ensures.reads c.err-4.ensures.value in
    let retransmit = least_error (ReadsRetransmit t) (retransmit_single t) c.retransmit_at.result c.err-5.result c.retransmit_at.ensures.reads c.err-5.ensures.value in
    let transmit_delay = least_error (ReadsTransmitDelay t) (transmit_delay_single t) c.transmit_delay_at.result c.err-6.result c.transmit_delay_at.ensures.reads c.err-6.ensures.value in
    let cost = least_error (ReadsCost t) (only_cost t) c.cost_at.result c.err-7.result c.cost_at.ensures.reads c.err-7.ensures.value in
    let priority = least_error (ReadsPriority t) (priority_single t) c.priority_at.result c.err-8.result c.priority_at.ensures c.err-8.ensures.value in
    let mtu = least_error (ReadsMtu t) (mtu_single t) c.mtu_at.result c.err-12.result c.mtu_at.ensures.reads c.err-12.ensures.value in
    let port = least_error (ReadsPort t) (port_single t) c.port_at.result c.err-9.result c.port_at.ensures c.err-9.ensures.value in
    let passive = least_error (ReadsPassive t) (passive_single t) c.passive_at.result c.err-10.result c.passive_at.ensures c.err-10.ensures.value in
    let suppressed = least_error (ReadsPrefixSuppression t) (prefix_suppression_single t) c.prefix_suppression_at.result c.err-11.result c.prefix_suppression_at.ensures c.err-11.ensures.value in
    let peers = least_fault (ReadsPeers t) (peers_single t) c.peers_fault.result c.peers_fault.ensures in
    let texts = least_both _ _ _ _ kind address in
    let times = least_both _ _ _ _ (least_both _ _ _ _ hello dead) (least_both _ _ _ _ retransmit transmit_delay) in
    let sizes = least_both _ _ _ _ (least_both _ _ _ _ cost priority) mtu in
    let ports = least_both _ _ _ _ (least_both _ _ _ _ port peers) (least_both _ _ _ _ passive suppressed) in
    rw (
      c.earlier-4.ensures,
      c.earlier.ensures,
      c.earlier-3.ensures,
      c.earlier-2.ensures,
      c.earlier-texts.ensures,
      c.earlier-times.ensures,
      c.earlier-hellos.ensures,
      c.earlier-delays.ensures,
      c.earlier-sizes.ensures,
      c.earlier-ranks.ensures,
      c.earlier-ports.ensures,
      c.earlier-flags.ensures,
    )
    (least_same _ _ _ (to_interface q t) (from_interface q t) (least_both _ _ _ _ (least_both _ _ _ _ texts times) (least_both _ _ _ _ sizes ports)))
