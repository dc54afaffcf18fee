-- Each key has a value or one fault.
use Rattle.std.proofs.Common.{◌≡◌, Bool, false, None, [], codes}
use Rattle.toml.specs.Data.{Members, get_member, as_str, as_bool, as_integer}
use Rattle.ospf_config.specs.Reading.{IsNumberIn, as_integers}
use Rattle.ospf_config.specs.Texts.{IsRouterIdText, IsAreaText, IsOtherLsasText, IsKindText, IsAddressText, IsHostText}
use Rattle.ospf_config.specs.Keys.{ReadsOwnRouterId, ReadsArea, ReadsStubRouter, ReadsOtherLsas, ReadsRfc3021, ReadsKind, MayHave31Bits, ReadsInterfaceAddress, ReadsCost, ReadsPriority, ReadsHello, ReadsDead, ReadsRetransmit, ReadsTransmitDelay, ReadsMtu, ReadsPort, ReadsPeers, ReadsPassive, ReadsPrefixSuppression, ReadsHostAddress, ReadsHostCost, IsPortNumber, ArePortNumbers}
use Rattle.ospf_config.specs.Tables.{ReadsInterfaces, AreInterfaceTables, ReadsHosts, AreHostTables, as_tables}
use Rattle.ospf_config.proofs.Least.{IsSingle, required_single, optional_single, cost_single}

module _ (t : Members) where
  pub router_id_single : IsSingle (ReadsOwnRouterId t)
  router_id_single = required_single IsRouterIdText as_str (get_member (codes "router_id") t)

  pub area_single : IsSingle (ReadsArea t)
  area_single = required_single IsAreaText as_str (get_member (codes "area") t)

  pub stub_router_single : IsSingle (ReadsStubRouter t)
  stub_router_single = optional_single (λ b c. b ≡ c) as_bool false (get_member (codes "stub_router") t)

  pub other_lsas_single : IsSingle (ReadsOtherLsas t)
  other_lsas_single = optional_single IsOtherLsasText as_str false (get_member (codes "other_lsas") t)

  pub rfc3021_single : IsSingle (ReadsRfc3021 t)
  rfc3021_single = optional_single (λ b c. b ≡ c) as_bool false (get_member (codes "rfc3021") t)

  pub interface_single : IsSingle (ReadsInterfaces t)
  interface_single = required_single AreInterfaceTables as_tables (get_member (codes "interface") t)

  pub host_list_single : IsSingle (ReadsHosts t)
  host_list_single = optional_single AreHostTables as_tables [] (get_member (codes "host") t)

  pub host_address_single : IsSingle (ReadsHostAddress t)
  host_address_single = required_single IsHostText as_str (get_member (codes "address") t)

  pub host_cost_single : IsSingle (ReadsHostCost t)
  host_cost_single = required_single (IsNumberIn 0 65535) as_integer (get_member (codes "cost") t)

  pub kind_single : IsSingle (ReadsKind t)
  kind_single = required_single IsKindText as_str (get_member (codes "kind") t)

  pub address_single : (r : Bool) → IsSingle (ReadsInterfaceAddress r t)
  address_single r = required_single (IsAddressText (MayHave31Bits r t)) as_str (get_member (codes "address") t)

  pub priority_single : IsSingle (ReadsPriority t)
  priority_single = optional_single (IsNumberIn 0 255) as_integer 1 (get_member (codes "priority") t)

  pub hello_single : IsSingle (ReadsHello t)
  hello_single = optional_single (IsNumberIn 1 65535) as_integer 10 (get_member (codes "hello") t)

  pub dead_single : IsSingle (ReadsDead t)
  dead_single = optional_single (IsNumberIn 1 65535) as_integer 40 (get_member (codes "dead") t)

  pub retransmit_single : IsSingle (ReadsRetransmit t)
  retransmit_single = optional_single (IsNumberIn 1 65535) as_integer 5 (get_member (codes "retransmit") t)

  pub transmit_delay_single : IsSingle (ReadsTransmitDelay t)
  transmit_delay_single = optional_single (IsNumberIn 1 3600) as_integer 1 (get_member (codes "transmit_delay") t)

  pub mtu_single : IsSingle (ReadsMtu t)
  mtu_single = optional_single (IsNumberIn 576 9000) as_integer 1500 (get_member (codes "mtu") t)

  pub port_single : IsSingle (ReadsPort t)
  port_single = optional_single IsPortNumber as_integer None (get_member (codes "port") t)

  pub peers_single : IsSingle (ReadsPeers t)
  peers_single = optional_single ArePortNumbers as_integers [] (get_member (codes "peers") t)

  pub passive_single : IsSingle (ReadsPassive t)
  passive_single = optional_single (λ b c. b ≡ c) as_bool false (get_member (codes "passive") t)

  pub prefix_suppression_single : IsSingle (ReadsPrefixSuppression t)
  prefix_suppression_single = optional_single (λ b c. b ≡ c) as_bool false (get_member (codes "prefix_suppression") t)

  pub only_cost : IsSingle (ReadsCost t)
  only_cost = cost_single (get_member (codes "cost") t)
