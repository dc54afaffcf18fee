-- Which faults come first: those of keys, then those of several keys.
use Rattle.std.proofs.Common.{◌≡◌, ◌⊎◌, ℕ, zero, suc, ℤ, pos, negsuc, ◌≤◌, Bool, false, [], codes, Option, Some, None, Result, Ok, Err, inl, inr, arith}
use Rattle.std.specs.Prelude.{Any}
use Rattle.toml.specs.Data.{Data, Members, get_member, as_str, as_bool, as_integer}
use Rattle.ospf_config.specs.declared.fault.ConfigFault.{ConfigFault}
use Rattle.ospf_config.specs.declared.fault.ConfigFault.TheVariants as fault
use Rattle.ospf_config.specs.Fault.{config_fault_number, IsLeastFault}
use Rattle.ospf_config.proofs.Least.{least_number, least_of}
use Rattle.ospf_config.specs.Reading.{ReadsValue, Required, Optional, IsNumberIn, as_integers}
use Rattle.ospf_config.specs.Texts.{IsRouterIdText, IsAreaText, IsOtherLsasText, IsKindText, IsAddressText, IsHostText}
use Rattle.ospf_config.specs.Keys.{MayHave31Bits, asks_rfc3021, ReadsCostValue, ReadsCostAt, IsPortNumber, ArePortNumbers}
use Rattle.ospf_config.specs.Tables.{HasTopFault, in_router_id, in_area, in_stub_router, in_other_lsas, in_rfc3021, in_interface, in_host, HasInterfaceFault, in_kind, in_address, in_cost, in_priority, in_hello, in_dead, in_retransmit, in_transmit_delay, in_mtu, in_port, in_peers, in_passive, in_prefix_suppression, HasHostFault, in_host_address, in_host_cost, HasSameAddress, IsDeadNotOverHello, HasOtherKey, HasOtherBelow, HasKeyFault, HasConfigFault, AreInterfaceTables, AreHostTables, as_tables, interface_tables, top_keys}

abbrev error : (T : Type 0) → ConfigFault → Result T ConfigFault
error T f = Err f

same_fault : (T : Type 0) (f g : ConfigFault) → error T f ≡ error T g → f ≡ g
same_fault T f g e = cc

low : (T : Type 0) (f g : ConfigFault) → error T f ≡ error T g → config_fault_number g ≤ 5 → config_fault_number f ≤ 5
low T f g e h = rw (same_fault T f g e) h

high : (T : Type 0) (f g : ConfigFault) → error T f ≡ error T g → 2 ≤ config_fault_number g → 2 ≤ config_fault_number f
high T f g e h = rw (same_fault T f g e) h

no_default : (T : Type 0) (x : T) (f : ConfigFault) → error T f ≡ Ok x → ⊥
no_default T x f e = cc

module _ {D T : Type 0} (Means : D → T → Type 0) where
  value_low : (v : Option D) (f : ConfigFault) → ReadsValue Means v (Err f) → config_fault_number f ≤ 5
  value_low None f h = low T f fault.Type h (omega arith)
  value_low (Some d) f h = rw h.0 (omega arith)

  required_low : (typed : Data → Option D) (o : Option Data) (f : ConfigFault) → Required typed Means o (Err f) → config_fault_number f ≤ 5
  required_low typed None f h = low T f fault.Missing h (omega arith)
  required_low typed (Some d) f h = value_low (typed d) f h

  optional_low : (typed : Data → Option D) (default : T) (o : Option Data) (f : ConfigFault) → Optional typed Means default o (Err f) → config_fault_number f ≤ 5
  optional_low typed default None f h = absurd (no_default T default f h)
  optional_low typed default (Some d) f h = value_low (typed d) f h

cost_value_low : (v : Option ℤ) (f : ConfigFault) → ReadsCostValue v (Err f) → config_fault_number f ≤ 5
cost_value_low None f h = value_low (IsNumberIn 1 65535) None f h
cost_value_low (Some (pos zero)) f h = low ℕ f fault.ZeroCost h (omega arith)
cost_value_low (Some (pos (suc n))) f h = value_low (IsNumberIn 1 65535) (Some (pos (suc n))) f h
cost_value_low (Some (negsuc n)) f h = value_low (IsNumberIn 1 65535) (Some (negsuc n)) f h

cost_low : (o : Option Data) (f : ConfigFault) → ReadsCostAt o (Err f) → config_fault_number f ≤ 5
cost_low None f h = low ℕ f fault.Missing h (omega arith)
cost_low (Some d) f h = cost_value_low (as_integer d) f h

top_low : (t : Members) (f : ConfigFault) → HasTopFault t f → config_fault_number f ≤ 5
top_low t f (in_router_id h) = required_low IsRouterIdText as_str (get_member (codes "router_id") t) f h
top_low t f (in_area h) = required_low IsAreaText as_str (get_member (codes "area") t) f h
top_low t f (in_stub_router h) = optional_low (λ b c. b ≡ c) as_bool false (get_member (codes "stub_router") t) f h
top_low t f (in_other_lsas h) = optional_low IsOtherLsasText as_str false (get_member (codes "other_lsas") t) f h
top_low t f (in_rfc3021 h) = optional_low (λ b c. b ≡ c) as_bool false (get_member (codes "rfc3021") t) f h
top_low t f (in_interface h) = required_low AreInterfaceTables as_tables (get_member (codes "interface") t) f h
top_low t f (in_host h) = optional_low AreHostTables as_tables [] (get_member (codes "host") t) f h

interface_low : (r : Bool) (t : Members) (f : ConfigFault) → HasInterfaceFault r t f → config_fault_number f ≤ 5
interface_low r t f (in_kind h) = required_low IsKindText as_str (get_member (codes "kind") t) f h
interface_low r t f (in_address h) = required_low (IsAddressText (MayHave31Bits r t)) as_str (get_member (codes "address") t) f h
interface_low r t f (in_cost h) = cost_low (get_member (codes "cost") t) f h
interface_low r t f (in_priority h) = optional_low (IsNumberIn 0 255) as_integer 1 (get_member (codes "priority") t) f h
interface_low r t f (in_hello h) = optional_low (IsNumberIn 1 65535) as_integer 10 (get_member (codes "hello") t) f h
interface_low r t f (in_dead h) = optional_low (IsNumberIn 1 65535) as_integer 40 (get_member (codes "dead") t) f h
interface_low r t f (in_retransmit h) = optional_low (IsNumberIn 1 65535) as_integer 5 (get_member (codes "retransmit") t) f h
interface_low r t f (in_transmit_delay h) = optional_low (IsNumberIn 1 3600) as_integer 1 (get_member (codes "transmit_delay") t) f h
interface_low r t f (in_mtu h) = optional_low (IsNumberIn 576 9000) as_integer 1500 (get_member (codes "mtu") t) f h
interface_low r t f (in_port h) = optional_low IsPortNumber as_integer None (get_member (codes "port") t) f h
interface_low r t f (in_peers h) = optional_low ArePortNumbers as_integers [] (get_member (codes "peers") t) f h
interface_low r t f (in_passive h) = optional_low (λ b c. b ≡ c) as_bool false (get_member (codes "passive") t) f h
interface_low r t f (in_prefix_suppression h) = optional_low (λ b c. b ≡ c) as_bool false (get_member (codes "prefix_suppression") t) f h

host_low : (t : Members) (f : ConfigFault) → HasHostFault t f → config_fault_number f ≤ 5
host_low t f (in_host_address h) = required_low IsHostText as_str (get_member (codes "address") t) f h
host_low t f (in_host_cost h) = required_low (IsNumberIn 0 65535) as_integer (get_member (codes "cost") t) f h

module _ {D T : Type 0} (Means : D → T → Type 0) where
  value_high : (v : Option D) (f : ConfigFault) → ReadsValue Means v (Err f) → 2 ≤ config_fault_number f
  value_high None f h = high T f fault.Type h (omega arith)
  value_high (Some d) f h = rw h.0 (omega arith)

  required_high : (typed : Data → Option D) (o : Option Data) (f : ConfigFault) → Required typed Means o (Err f) → 2 ≤ config_fault_number f
  required_high typed None f h = high T f fault.Missing h (omega arith)
  required_high typed (Some d) f h = value_high (typed d) f h

  optional_high : (typed : Data → Option D) (default : T) (o : Option Data) (f : ConfigFault) → Optional typed Means default o (Err f) → 2 ≤ config_fault_number f
  optional_high typed default None f h = absurd (no_default T default f h)
  optional_high typed default (Some d) f h = value_high (typed d) f h

cost_value_high : (v : Option ℤ) (f : ConfigFault) → ReadsCostValue v (Err f) → 2 ≤ config_fault_number f
cost_value_high None f h = value_high (IsNumberIn 1 65535) None f h
cost_value_high (Some (pos zero)) f h = high ℕ f fault.ZeroCost h (omega arith)
cost_value_high (Some (pos (suc n))) f h = value_high (IsNumberIn 1 65535) (Some (pos (suc n))) f h
cost_value_high (Some (negsuc n)) f h = value_high (IsNumberIn 1 65535) (Some (negsuc n)) f h

cost_high : (o : Option Data) (f : ConfigFault) → ReadsCostAt o (Err f) → 2 ≤ config_fault_number f
cost_high None f h = high ℕ f fault.Missing h (omega arith)
cost_high (Some d) f h = cost_value_high (as_integer d) f h

top_high : (t : Members) (f : ConfigFault) → HasTopFault t f → 2 ≤ config_fault_number f
top_high t f (in_router_id h) = required_high IsRouterIdText as_str (get_member (codes "router_id") t) f h
top_high t f (in_area h) = required_high IsAreaText as_str (get_member (codes "area") t) f h
top_high t f (in_stub_router h) = optional_high (λ b c. b ≡ c) as_bool false (get_member (codes "stub_router") t) f h
top_high t f (in_other_lsas h) = optional_high IsOtherLsasText as_str false (get_member (codes "other_lsas") t) f h
top_high t f (in_rfc3021 h) = optional_high (λ b c. b ≡ c) as_bool false (get_member (codes "rfc3021") t) f h
top_high t f (in_interface h) = required_high AreInterfaceTables as_tables (get_member (codes "interface") t) f h
top_high t f (in_host h) = optional_high AreHostTables as_tables [] (get_member (codes "host") t) f h

interface_high : (r : Bool) (t : Members) (f : ConfigFault) → HasInterfaceFault r t f → 2 ≤ config_fault_number f
interface_high r t f (in_kind h) = required_high IsKindText as_str (get_member (codes "kind") t) f h
interface_high r t f (in_address h) = required_high (IsAddressText (MayHave31Bits r t)) as_str (get_member (codes "address") t) f h
interface_high r t f (in_cost h) = cost_high (get_member (codes "cost") t) f h
interface_high r t f (in_priority h) = optional_high (IsNumberIn 0 255) as_integer 1 (get_member (codes "priority") t) f h
interface_high r t f (in_hello h) = optional_high (IsNumberIn 1 65535) as_integer 10 (get_member (codes "hello") t) f h
interface_high r t f (in_dead h) = optional_high (IsNumberIn 1 65535) as_integer 40 (get_member (codes "dead") t) f h
interface_high r t f (in_retransmit h) = optional_high (IsNumberIn 1 65535) as_integer 5 (get_member (codes "retransmit") t) f h
interface_high r t f (in_transmit_delay h) = optional_high (IsNumberIn 1 3600) as_integer 1 (get_member (codes "transmit_delay") t) f h
interface_high r t f (in_mtu h) = optional_high (IsNumberIn 576 9000) as_integer 1500 (get_member (codes "mtu") t) f h
interface_high r t f (in_port h) = optional_high IsPortNumber as_integer None (get_member (codes "port") t) f h
interface_high r t f (in_peers h) = optional_high ArePortNumbers as_integers [] (get_member (codes "peers") t) f h
interface_high r t f (in_passive h) = optional_high (λ b c. b ≡ c) as_bool false (get_member (codes "passive") t) f h
interface_high r t f (in_prefix_suppression h) = optional_high (λ b c. b ≡ c) as_bool false (get_member (codes "prefix_suppression") t) f h

host_high : (t : Members) (f : ConfigFault) → HasHostFault t f → 2 ≤ config_fault_number f
host_high t f (in_host_address h) = required_high IsHostText as_str (get_member (codes "address") t) f h
host_high t f (in_host_cost h) = required_high (IsNumberIn 0 65535) as_integer (get_member (codes "cost") t) f h

small : (g : ConfigFault) → 10 ≤ config_fault_number g → ⊥
small fault.NotToml h = omega arith
small fault.Missing h = omega arith
small fault.Type h = omega arith
small fault.Range h = omega arith
small fault.ZeroCost h = omega arith
small fault.SamePrefix h = omega arith
small fault.DeadNotOverHello h = omega arith
small fault.Unknown h = omega arith
small fault.Memory h = omega arith

-- a fault of one key has a number up to that of ZeroCost
key_low : (t : Members) (f : ConfigFault) → HasKeyFault t f → config_fault_number f ≤ 5
key_low t f (inl h) = top_low t f h
key_low t f (inr (inl (k, i, lt, at, h))) = interface_low (asks_rfc3021 t) i f h
key_low t f (inr (inr (k, i, lt, at, h))) = host_low i f h

key_high : (t : Members) (f : ConfigFault) → HasKeyFault t f → 2 ≤ config_fault_number f
key_high t f (inl h) = top_high t f h
key_high t f (inr (inl (k, i, lt, at, h))) = interface_high (asks_rfc3021 t) i f h
key_high t f (inr (inr (k, i, lt, at, h))) = host_high i f h

pub key_has : (t : Members) (f : ConfigFault) → HasKeyFault t f → HasConfigFault t f
key_has t fault.NotToml h = h
key_has t fault.Missing h = h
key_has t fault.Type h = h
key_has t fault.Range h = h
key_has t fault.ZeroCost h = h
key_has t fault.SamePrefix h = absurd (let few = key_low t fault.SamePrefix h in omega arith)
key_has t fault.DeadNotOverHello h = absurd (let few = key_low t fault.DeadNotOverHello h in omega arith)
key_has t fault.Unknown h = absurd (let few = key_low t fault.Unknown h in omega arith)
key_has t fault.Memory h = h

module _ (t : Members) (n : ℕ) (keys : (g : ConfigFault) → HasKeyFault t g → n ≤ config_fault_number g) (prefix : HasSameAddress t → n ≤ 6)
    (dead : Any IsDeadNotOverHello (interface_tables t) → n ≤ 7)
    (unknown : HasOtherKey top_keys t ⊎ HasOtherBelow t → n ≤ 8) where
  at_least : (g : ConfigFault) → HasConfigFault t g → n ≤ config_fault_number g
  at_least fault.NotToml h = keys fault.NotToml h
  at_least fault.Missing h = keys fault.Missing h
  at_least fault.Type h = keys fault.Type h
  at_least fault.Range h = keys fault.Range h
  at_least fault.ZeroCost h = keys fault.ZeroCost h
  at_least fault.SamePrefix h = prefix h
  at_least fault.DeadNotOverHello h = dead h
  at_least fault.Unknown h = unknown h
  at_least fault.Memory h = keys fault.Memory h

pub least_key : (t : Members) (f : ConfigFault) → IsLeastFault (HasKeyFault t) f → IsLeastFault (HasConfigFault t) f
least_key t f h =
    let few : config_fault_number f ≤ 5 = key_low t f h.broken in
    least_of _ f (key_has t f h.broken) (at_least t (config_fault_number f) (least_number _ f h) (λ _. omega arith) (λ _. omega arith) (λ _. omega arith))

module _ (t : Members) (keys : (g : ConfigFault) → HasKeyFault t g → ⊥) where
  pub least_prefix : HasSameAddress t → IsLeastFault (HasConfigFault t) fault.SamePrefix
  least_prefix h = least_of _ _ h (at_least t 6 (λ g k. absurd (keys g k)) (λ _. omega arith) (λ _. omega arith) (λ _. omega arith))

  pub least_dead : (HasSameAddress t → ⊥) → Any IsDeadNotOverHello (interface_tables t) → IsLeastFault (HasConfigFault t) fault.DeadNotOverHello
  least_dead prefix h = least_of _ _ h (at_least t 7 (λ g k. absurd (keys g k)) (λ p. absurd (prefix p)) (λ _. omega arith) (λ _. omega arith))

  pub least_unknown : (HasSameAddress t → ⊥) → (Any IsDeadNotOverHello (interface_tables t) → ⊥)
      → HasOtherKey top_keys t ⊎ HasOtherBelow t → IsLeastFault (HasConfigFault t) fault.Unknown
  least_unknown prefix dead h = least_of _ _ h (at_least t 8 (λ g k. absurd (keys g k)) (λ p. absurd (prefix p)) (λ d. absurd (dead d)) (λ _. omega arith))

  pub no_fault_at_all : (HasSameAddress t → ⊥) → (Any IsDeadNotOverHello (interface_tables t) → ⊥)
      → (HasOtherKey top_keys t ⊎ HasOtherBelow t → ⊥) → (g : ConfigFault) → HasConfigFault t g → ⊥
  no_fault_at_all prefix dead unknown g h =
      let ten : 10 ≤ config_fault_number g = at_least t 10 (λ f k. absurd (keys f k)) (λ p. absurd (prefix p)) (λ d. absurd (dead d)) (λ u. absurd (unknown u)) g h in
      small g ten

-- a table is TOML
pub never_not_toml : (t : Members) → HasConfigFault t fault.NotToml → ⊥
never_not_toml t h = let two : 2 ≤ config_fault_number fault.NotToml = key_high t fault.NotToml h in omega arith
