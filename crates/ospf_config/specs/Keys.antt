-- The keys: name, type, meaning, and default where there is one.
use Rattle.std.specs.Prelude.{◌≡◌, ℕ, zero, ℤ, pos, ◌≤◌, Bool, false, IsTrue, option_and_then, unwrap_or, List, [], map, length, codes, Option, Some, None, Result, Ok, Err}
use Rattle.ospf_base.specs.Constants.{max_age}
use Rattle.toml.specs.Data.{Data, Members, get_member, as_str, as_integer, as_bool}
use Rattle.ospf_base.specs.declared.ids.Addr.{Addr}
use Rattle.ospf_base.specs.declared.ids.RouterId.{RouterId}
use Rattle.ospf_base.specs.declared.ids.AreaId.{AreaId}
use Rattle.ospf_config.specs.declared.address.InterfaceAddress.{InterfaceAddress}
use Rattle.ospf_base.specs.declared.interface.InterfaceKind.{InterfaceKind}
use Rattle.ospf_base.specs.declared.interface.InterfaceKind.TheVariants.{PointToPoint}
use Rattle.ospf_config.specs.declared.interface.Port.{Port}
use Rattle.ospf_config.specs.declared.fault.ConfigFault.{ConfigFault}
use Rattle.ospf_config.specs.declared.fault.ConfigFault.TheVariants as fault
use Rattle.ospf_config.specs.Reading.{ReadsValue, Required, Optional, IsNumberIn, as_integers}
use Rattle.ospf_config.specs.Texts.{IsRouterIdText, IsAreaText, IsOtherLsasText, IsKindText, IsAddressText, IsHostText}

-- ---- at the top

-- the key `router_id`, which must be there: a Router ID (RFC 2328, section C.1)
abbrev pub ReadsOwnRouterId : Members → Result RouterId ConfigFault → Type 0
ReadsOwnRouterId t r = Required as_str IsRouterIdText (get_member (codes "router_id") t) r

-- the key `area`, which must be there: an Area ID (C.2)
abbrev pub ReadsArea : Members → Result AreaId ConfigFault → Type 0
ReadsArea t r = Required as_str IsAreaText (get_member (codes "area") t) r

-- the key `stub_router`, `false` where it is not there: whether the
-- router is a stub router (RFC 6987)
abbrev pub ReadsStubRouter : Members → Result Bool ConfigFault → Type 0
ReadsStubRouter t r = Optional as_bool (λ b c. b ≡ c) false (get_member (codes "stub_router") t) r

-- the key `other_lsas`, `refuse` where it is not there: how LSAs of LS types 3 to 5 are handled
abbrev pub ReadsOtherLsas : Members → Result Bool ConfigFault → Type 0
ReadsOtherLsas t r = Optional as_str IsOtherLsasText false (get_member (codes "other_lsas") t) r

-- the key `rfc3021`, `false` where it is not there: whether point-to-point interfaces may have
-- prefixes of 31 bits (RFC 3021)
abbrev pub ReadsRfc3021 : Members → Result Bool ConfigFault → Type 0
ReadsRfc3021 t r = Optional as_bool (λ b c. b ≡ c) false (get_member (codes "rfc3021") t) r

-- prefixes of 31 bits are asked for: the key `rfc3021` is true
abbrev pub asks_rfc3021 : Members → Bool
asks_rfc3021 t = unwrap_or (option_and_then as_bool (get_member (codes "rfc3021") t)) false

-- ---- of an interface (RFC 2328, appendix C.3)

-- the key `kind`, which must be there: point-to-point or broadcast (C.3)
abbrev pub ReadsKind : Members → Result InterfaceKind ConfigFault → Type 0
ReadsKind t r = Required as_str IsKindText (get_member (codes "kind") t) r

-- the interface may have a prefix of 31 bits: that is asked for, and it is a point-to-point
-- interface (RFC 3021)
abbrev pub MayHave31Bits : Bool → Members → Type 0
MayHave31Bits rfc3021 t = IsTrue rfc3021 × ReadsKind t (Ok PointToPoint)

-- the key `address`, which must be there: the interface's address and the length of its mask (C.3)
abbrev pub ReadsInterfaceAddress : Bool → Members → Result InterfaceAddress ConfigFault → Type 0
ReadsInterfaceAddress rfc3021 t r =
    Required as_str (IsAddressText (MayHave31Bits rfc3021 t)) (get_member (codes "address") t) r

-- a cost of zero has a fault of its own
abbrev pub ReadsCostValue : Option ℤ → Result ℕ ConfigFault → Type 0
ReadsCostValue (Some (pos zero)) r = r ≡ Err fault.ZeroCost
ReadsCostValue z r = ReadsValue (IsNumberIn 1 65535) z r

-- a cost, which must be there, by the value at its key
abbrev pub ReadsCostAt : Option Data → Result ℕ ConfigFault → Type 0
ReadsCostAt None r = r ≡ Err fault.Missing
ReadsCostAt (Some d) r = ReadsCostValue (as_integer d) r

-- the key `cost`, which must be there: the interface's output cost (C.3)
abbrev pub ReadsCost : Members → Result ℕ ConfigFault → Type 0
ReadsCost t r = ReadsCostAt (get_member (codes "cost") t) r

-- the key `priority`, 1 where it is not there: RouterPriority (C.3)
abbrev pub ReadsPriority : Members → Result ℕ ConfigFault → Type 0
ReadsPriority t r = Optional as_integer (IsNumberIn 0 255) 1 (get_member (codes "priority") t) r

-- the key `hello`, 10 where it is not there: HelloInterval, in seconds (C.3)
abbrev pub ReadsHello : Members → Result ℕ ConfigFault → Type 0
ReadsHello t r = Optional as_integer (IsNumberIn 1 65535) 10 (get_member (codes "hello") t) r

-- the key `dead`, 40 where it is not there: RouterDeadInterval, in seconds (C.3)
abbrev pub ReadsDead : Members → Result ℕ ConfigFault → Type 0
ReadsDead t r = Optional as_integer (IsNumberIn 1 65535) 40 (get_member (codes "dead") t) r

-- the key `retransmit`, 5 where it is not there: RxmtInterval, in seconds (C.3)
abbrev pub ReadsRetransmit : Members → Result ℕ ConfigFault → Type 0
ReadsRetransmit t r =
    Optional as_integer (IsNumberIn 1 65535) 5 (get_member (codes "retransmit") t) r

-- the key `transmit_delay`, 1 where it is not there: InfTransDelay, in seconds (C.3)
abbrev pub ReadsTransmitDelay : Members → Result ℕ ConfigFault → Type 0
ReadsTransmitDelay t r =
    Optional as_integer (IsNumberIn 1 max_age) 1 (get_member (codes "transmit_delay") t) r

-- the key `mtu`, 1500 where it is not there: the greatest IP datagram of the interface, in bytes
abbrev pub ReadsMtu : Members → Result ℕ ConfigFault → Type 0
ReadsMtu t r = Optional as_integer (IsNumberIn 576 9000) 1500 (get_member (codes "mtu") t) r

-- a port, or 0 for none
abbrev pub IsPortNumber : ℤ → Option Port → Type 0
IsPortNumber z None = z ≡ pos 0
IsPortNumber z (Some p) = z ≡ pos p.number

-- the key `port`, which need not be there: the UDP port of the interface
abbrev pub ReadsPort : Members → Result (Option Port) ConfigFault → Type 0
ReadsPort t r = Optional as_integer IsPortNumber None (get_member (codes "port") t) r

-- the value is a port
pub record IsPort (d : Data) : Type 0 where
  pub port : Port
  pub is : as_integer d ≡ Some (pos port.number)

-- at most 32 ports, in order
abbrev pub ArePortNumbers : List ℤ → List Port → Type 0
ArePortNumbers zs ports = (zs ≡ map (λ (p : Port). pos p.number) ports) × (length ports ≤ 32)

-- the key `peers`, none where it is not there: the UDP ports of the link's other ends
abbrev pub ReadsPeers : Members → Result (List Port) ConfigFault → Type 0
ReadsPeers t r = Optional as_integers ArePortNumbers [] (get_member (codes "peers") t) r

-- the key `passive`, `false` where it is not there: whether the interface forms no adjacencies and
-- its network is a stub network (RFC 2328, sections 12.4.1.1 and 12.4.1.2)
abbrev pub ReadsPassive : Members → Result Bool ConfigFault → Type 0
ReadsPassive t r = Optional as_bool (λ b c. b ≡ c) false (get_member (codes "passive") t) r

-- the interface is passive: the key `passive` is true
abbrev pub is_passive : Members → Bool
is_passive t = unwrap_or (option_and_then as_bool (get_member (codes "passive") t)) false

-- the interface is not passive
abbrev pub IsActive : Members → Type 0
IsActive t = is_passive t ≡ false

-- the key `prefix_suppression`, `false` where it is not there: whether the prefix of the
-- interface's link is hidden (RFC 6860)
abbrev pub ReadsPrefixSuppression : Members → Result Bool ConfigFault → Type 0
ReadsPrefixSuppression t r =
    Optional as_bool (λ b c. b ≡ c) false (get_member (codes "prefix_suppression") t) r

-- ---- of a host (RFC 2328, appendix C.7)

-- the key `address`, which must be there: the host's address
abbrev pub ReadsHostAddress : Members → Result Addr ConfigFault → Type 0
ReadsHostAddress t r = Required as_str IsHostText (get_member (codes "address") t) r

-- the key `cost`, which must be there: the cost of the router's link to the host, which may be 0
abbrev pub ReadsHostCost : Members → Result ℕ ConfigFault → Type 0
ReadsHostCost t r = Required as_integer (IsNumberIn 0 65535) (get_member (codes "cost") t) r
