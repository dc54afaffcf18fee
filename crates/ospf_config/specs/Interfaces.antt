-- The interface, the stub network or the host that a table describes.
use Rattle.std.specs.Prelude.{◌≡◌, Bool, List, ◌++◌, Ok}
use Rattle.std.specs.List.{AllZip}
use Rattle.toml.specs.Data.{Members}
use Rattle.ospf_base.specs.Masks.{mask_of}
use Rattle.ospf_base.specs.Prefixes.{IsPrefixOf}
use Rattle.ospf_base.specs.declared.stub_network.StubNetwork.{StubNetwork}
use Rattle.ospf_config.specs.declared.address.InterfaceAddress.{InterfaceAddress}
use Rattle.ospf_config.specs.declared.interface.Interface.{Interface}
use Rattle.ospf_config.specs.Keys.{ReadsKind, ReadsInterfaceAddress, ReadsCost, ReadsPriority, ReadsHello, ReadsDead, ReadsRetransmit, ReadsTransmitDelay, ReadsMtu, ReadsPort, ReadsPeers, ReadsPrefixSuppression, ReadsHostAddress, ReadsHostCost}

-- the interface is the reading of its table, in a configuration that asks for prefixes of 31 bits
-- or does not
pub record IsInterfaceOf (rfc3021 : Bool) (t : Members) (i : Interface) : Type 0 where
  pub kind : ReadsKind t (Ok i.kind)
  pub address : ReadsInterfaceAddress rfc3021 t (Ok i.address)
  pub cost : ReadsCost t (Ok i.cost)
  pub priority : ReadsPriority t (Ok i.priority)
  pub hello : ReadsHello t (Ok i.hello)
  pub dead : ReadsDead t (Ok i.dead)
  pub retransmit : ReadsRetransmit t (Ok i.retransmit)
  pub transmit_delay : ReadsTransmitDelay t (Ok i.transmit_delay)
  pub mtu : ReadsMtu t (Ok i.mtu)
  pub port : ReadsPort t (Ok i.port)
  pub peers : ReadsPeers t (Ok i.peers.items)
  pub prefix_suppression : ReadsPrefixSuppression t (Ok i.prefix_suppression)

-- the stub network is that of a passive interface: the prefix of its address, at its cost
-- (RFC 2328, sections 12.4.1.1 and 12.4.1.2)
pub record IsStubNetworkOf (rfc3021 : Bool) (t : Members) (n : StubNetwork) : Type 0 where
  pub address : InterfaceAddress
  pub reads : ReadsInterfaceAddress rfc3021 t (Ok address)
  pub prefix : IsPrefixOf address.address.0 (mask_of address.length) n.prefix
  pub cost : ReadsCost t (Ok n.cost)

-- the host is the reading of its table
pub record IsHostOf (t : Members) (h : StubNetwork) : Type 0 where
  pub address : ReadsHostAddress t (Ok h.prefix.address)
  pub length : h.prefix.length ≡ 32
  pub cost : ReadsHostCost t (Ok h.cost)

-- the stub networks are those of the tables of passive interfaces in order, then the hosts in order
pub record AreStubNetworksOf (rfc3021 : Bool) (passive hosts : List Members)
    (stubs : List StubNetwork) : Type 0 where
  pub networks : List StubNetwork
  pub behind : List StubNetwork
  pub order : stubs ≡ networks ++ behind
  pub of_passive : AllZip (IsStubNetworkOf rfc3021) passive networks
  pub of_hosts : AllZip IsHostOf hosts behind
