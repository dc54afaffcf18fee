-- What a TOML table says of a configuration, and which faults it has.
use Rattle.std.specs.Prelude.{◌≡◌, ◌⊎◌, ℕ, ℤ, ◌<◌, ◌≤◌, ◌≤ℤ◌, Bool, not, if◌then◌else◌, List, [], ◌∷◌, length, take, filter, slice_get, codes, Contains, Any, Option, Some, None, option_and_then, unwrap_or, Result, Ok, Err}
use Rattle.toml.specs.Data.{Data, Items, no_items, item, array, table, Members, no_members, member, get_member}
use Rattle.toml.specs.Text.{are_tables}
use Rattle.ospf_base.specs.declared.ids.Addr.{Addr}
use Rattle.ospf_config.specs.declared.address.InterfaceAddress.{InterfaceAddress}
use Rattle.ospf_config.specs.declared.fault.ConfigFault.{ConfigFault}
use Rattle.ospf_config.specs.declared.fault.ConfigFault.TheVariants as fault
use Rattle.ospf_config.specs.Reading.{Required, Optional, integer_or}
use Rattle.ospf_config.specs.Keys.{ReadsOwnRouterId, ReadsArea, ReadsStubRouter, ReadsOtherLsas, ReadsRfc3021, asks_rfc3021, ReadsKind, ReadsInterfaceAddress, ReadsCost, ReadsPriority, ReadsHello, ReadsDead, ReadsRetransmit, ReadsTransmitDelay, ReadsMtu, ReadsPort, ReadsPeers, ReadsPassive, is_passive, ReadsPrefixSuppression, ReadsHostAddress, ReadsHostCost}
use Rattle.ospf_config.specs.Conflicts.{Conflict}

-- ---- the tables of the interfaces and of the hosts

-- the tables among the items
abbrev pub tables_among : Items → List Members
tables_among no_items = []
tables_among (item (table t) ds) = t ∷ tables_among ds
tables_among (item _ ds) = tables_among ds

-- the tables of a list of tables
abbrev pub as_tables : Data → Option (List Members)
as_tables (array ds) = if are_tables ds then Some (tables_among ds) else None
as_tables _ = None

-- those of them that describe passive interfaces, in order
abbrev pub passive_among : List Members → List Members
passive_among ts = filter is_passive ts

-- the others, in order
abbrev pub active_among : List Members → List Members
active_among ts = filter (λ t. not (is_passive t)) ts

-- at most 32 tables, and one at least of an interface that is not passive
abbrev pub AreInterfaceTables : List Members → List Members → Type 0
AreInterfaceTables ts us = (ts ≡ us) × (1 ≤ length (active_among us)) × (length us ≤ 32)

-- the key `interface`, which must be there: a table for each interface
abbrev pub ReadsInterfaces : Members → Result (List Members) ConfigFault → Type 0
ReadsInterfaces t r = Required as_tables AreInterfaceTables (get_member (codes "interface") t) r

-- the tables of the interfaces, however many: none where `interface` is no list of tables
abbrev pub interface_tables : Members → List Members
interface_tables t = unwrap_or (option_and_then as_tables (get_member (codes "interface") t)) []

-- the tables of the interfaces that are not passive, in order: each is an interface of the router
abbrev pub active_tables : Members → List Members
active_tables t = active_among (interface_tables t)

-- the tables of the passive interfaces, in order: each is a stub network of the router
abbrev pub passive_tables : Members → List Members
passive_tables t = passive_among (interface_tables t)

-- at most 32 tables
abbrev pub AreHostTables : List Members → List Members → Type 0
AreHostTables ts us = (ts ≡ us) × (length us ≤ 32)

-- the key `host`, none where it is not there: a table for each host (RFC 2328, appendix C.7)
abbrev pub ReadsHosts : Members → Result (List Members) ConfigFault → Type 0
ReadsHosts t r = Optional as_tables AreHostTables [] (get_member (codes "host") t) r

-- the tables of the hosts, however many: none where `host` is no list of tables
abbrev pub host_tables : Members → List Members
host_tables t = unwrap_or (option_and_then as_tables (get_member (codes "host") t)) []

-- the value is a table for which this holds
abbrev pub IsTableWith : (Members → Type 0) → Data → Type 0
IsTableWith P (table t) = P t
IsTableWith P _ = ⊥

-- ---- faults of one key

-- a key at the top has the fault
pub data HasTopFault (t : Members) (f : ConfigFault) : Type 0 where
  in_router_id : ReadsOwnRouterId t (Err f) → HasTopFault t f
  in_area : ReadsArea t (Err f) → HasTopFault t f
  in_stub_router : ReadsStubRouter t (Err f) → HasTopFault t f
  in_other_lsas : ReadsOtherLsas t (Err f) → HasTopFault t f
  in_rfc3021 : ReadsRfc3021 t (Err f) → HasTopFault t f
  in_interface : ReadsInterfaces t (Err f) → HasTopFault t f
  in_host : ReadsHosts t (Err f) → HasTopFault t f

-- a key of the interface has the fault
pub data HasInterfaceFault (rfc3021 : Bool) (t : Members) (f : ConfigFault) : Type 0 where
  in_kind : ReadsKind t (Err f) → HasInterfaceFault rfc3021 t f
  in_address : ReadsInterfaceAddress rfc3021 t (Err f) → HasInterfaceFault rfc3021 t f
  in_cost : ReadsCost t (Err f) → HasInterfaceFault rfc3021 t f
  in_priority : ReadsPriority t (Err f) → HasInterfaceFault rfc3021 t f
  in_hello : ReadsHello t (Err f) → HasInterfaceFault rfc3021 t f
  in_dead : ReadsDead t (Err f) → HasInterfaceFault rfc3021 t f
  in_retransmit : ReadsRetransmit t (Err f) → HasInterfaceFault rfc3021 t f
  in_transmit_delay : ReadsTransmitDelay t (Err f) → HasInterfaceFault rfc3021 t f
  in_mtu : ReadsMtu t (Err f) → HasInterfaceFault rfc3021 t f
  in_port : ReadsPort t (Err f) → HasInterfaceFault rfc3021 t f
  in_peers : ReadsPeers t (Err f) → HasInterfaceFault rfc3021 t f
  in_passive : ReadsPassive t (Err f) → HasInterfaceFault rfc3021 t f
  in_prefix_suppression : ReadsPrefixSuppression t (Err f) → HasInterfaceFault rfc3021 t f

-- a key of the host has the fault
pub data HasHostFault (t : Members) (f : ConfigFault) : Type 0 where
  in_host_address : ReadsHostAddress t (Err f) → HasHostFault t f
  in_host_cost : ReadsHostCost t (Err f) → HasHostFault t f

-- ---- faults of several keys

-- two interfaces have one prefix or one address
pub record HaveSamePrefix (rfc3021 : Bool) (tables : List Members) : Type 0 where
  pub i : ℕ
  pub j : ℕ
  pub before : i < j
  pub first : Members
  pub second : Members
  pub at_first : slice_get tables i ≡ Some first
  pub at_second : slice_get tables j ≡ Some second
  pub a : InterfaceAddress
  pub b : InterfaceAddress
  pub first_address : ReadsInterfaceAddress rfc3021 first (Ok a)
  pub second_address : ReadsInterfaceAddress rfc3021 second (Ok b)
  pub conflict : Conflict a b

-- the host has the address of this interface
pub record IsAtInterface (rfc3021 : Bool) (host interface : Members) : Type 0 where
  pub host_address : Addr
  pub interface_address : InterfaceAddress
  pub host_reads : ReadsHostAddress host (Ok host_address)
  pub interface_reads : ReadsInterfaceAddress rfc3021 interface (Ok interface_address)
  pub same : host_address.0 ≡ interface_address.address.0

-- the host has the address of this other one
pub record IsAtHost (host other : Members) : Type 0 where
  pub host_address : Addr
  pub other_address : Addr
  pub host_reads : ReadsHostAddress host (Ok host_address)
  pub other_reads : ReadsHostAddress other (Ok other_address)
  pub same : host_address.0 ≡ other_address.0

-- the host has the address of an interface, or of a host before it
abbrev pub HasTakenAddress : Bool → List Members → List Members → Members → Type 0
HasTakenAddress rfc3021 interfaces before host =
    Any (IsAtInterface rfc3021 host) interfaces ⊎ Any (IsAtHost host) before

-- one of the hosts has the address of an interface or of a host before it
pub record IsAnyTaken (rfc3021 : Bool) (interfaces hosts : List Members) : Type 0 where
  pub place : ℕ
  pub host : Members
  pub at_place : slice_get hosts place ≡ Some host
  pub taken : HasTakenAddress rfc3021 interfaces (take place hosts) host

-- the interface would be dead no later than its next Hello (RFC 2328, appendix C.3): the integers
-- at the two keys are compared, also where one of them is out of its range
pub record IsDeadNotOverHello (t : Members) : Type 0 where
  pub hello : ℤ
  pub dead : ℤ
  pub hello_is : integer_or 10 (get_member (codes "hello") t) ≡ Some hello
  pub dead_is : integer_or 40 (get_member (codes "dead") t) ≡ Some dead
  pub not_over : dead ≤ℤ hello

-- ---- keys that are not known

-- the keys of a table, in its order
abbrev pub keys_of : Members → List (List ℕ)
keys_of no_members = []
keys_of (member k d ms) = k ∷ keys_of ms

-- the keys that a configuration can have
abbrev pub top_keys : List (List ℕ)
top_keys =
    codes "router_id" ∷ codes "area" ∷ codes "stub_router" ∷ codes "other_lsas" ∷ codes "rfc3021"
    ∷ codes "interface" ∷ codes "host" ∷ []

-- the keys that the table of an interface can have
abbrev pub interface_keys : List (List ℕ)
interface_keys =
    codes "kind" ∷ codes "address" ∷ codes "cost" ∷ codes "priority" ∷ codes "hello" ∷ codes "dead"
    ∷ codes "retransmit"
    ∷ codes "transmit_delay" ∷ codes "mtu" ∷ codes "port" ∷ codes "peers" ∷ codes "passive"
    ∷ codes "prefix_suppression" ∷ []

-- the keys that the table of a host can have
abbrev pub host_keys : List (List ℕ)
host_keys = codes "address" ∷ codes "cost" ∷ []

-- the key is none of these
pub record IsOtherKey (known : List (List ℕ)) (key : List ℕ) : Type 0 where
  pub absent : Contains known key → ⊥

-- the table has a key other than these
abbrev pub HasOtherKey : List (List ℕ) → Members → Type 0
HasOtherKey known t = Any (IsOtherKey known) (keys_of t)

-- ---- faults of the table

-- the table of an interface or of a host has a key that it cannot have
abbrev pub HasOtherBelow : Members → Type 0
HasOtherBelow t =
    Any (HasOtherKey interface_keys) (interface_tables t) ⊎ Any (HasOtherKey host_keys)
    (host_tables t)

-- a key of the table of an interface or of a host has the fault
abbrev pub HasFaultBelow : Members → ConfigFault → Type 0
HasFaultBelow t f =
    Any (λ i. HasInterfaceFault (asks_rfc3021 t) i f) (interface_tables t) ⊎ Any
    (λ h. HasHostFault h f) (host_tables t)

-- a key has the fault
abbrev pub HasKeyFault : Members → ConfigFault → Type 0
HasKeyFault t f = HasTopFault t f ⊎ HasFaultBelow t f

-- interfaces are in one prefix, or an address is that of two interfaces, of two hosts or of both
abbrev pub HasSameAddress : Members → Type 0
HasSameAddress t =
    HaveSamePrefix (asks_rfc3021 t) (interface_tables t) ⊎ IsAnyTaken (asks_rfc3021 t)
    (interface_tables t) (host_tables t)

-- a table has a fault: of interfaces that are in one prefix or of one address twice, of an
-- interval, of a key that is none, or of the value at a key
abbrev pub HasConfigFault : Members → ConfigFault → Type 0
HasConfigFault t fault.SamePrefix = HasSameAddress t
HasConfigFault t fault.DeadNotOverHello = Any IsDeadNotOverHello (interface_tables t)
HasConfigFault t fault.Unknown = HasOtherKey top_keys t ⊎ HasOtherBelow t
HasConfigFault t f = HasKeyFault t f
