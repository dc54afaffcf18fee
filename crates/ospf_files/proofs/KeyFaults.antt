-- Which faults a key can have.
use Rattle.std.proofs.Common.{◌≡◌, ◌⊎◌, ℕ, zero, suc, ℤ, pos, negsuc, ◌≤◌, Bool, false, List, [], ◌∷◌, codes, Option, Some, None, Result, Ok, Err, inl, inr, arith}
use Rattle.std.specs.Prelude.{Any}
use Rattle.toml.specs.Data.{Data, Members, get_member, as_str, as_bool, as_integer}
use Rattle.ospf_config.specs.declared.fault.ConfigFault.{ConfigFault}
use Rattle.ospf_config.specs.declared.fault.ConfigFault.TheVariants as fault
use Rattle.ospf_config.specs.Fault.{config_fault_number}
use Rattle.ospf_config.specs.Reading.{ReadsValue, Required, Optional, IsNumberIn, as_integers}
use Rattle.ospf_config.specs.Texts.{IsRouterIdText, IsAreaText, IsOtherLsasText, IsKindText, IsAddressText, IsHostText}
use Rattle.ospf_config.specs.Keys.{MayHave31Bits, ReadsCostValue, ReadsCostAt, IsPortNumber, ArePortNumbers}
use Rattle.ospf_config.specs.Tables.{HasTopFault, in_router_id, in_area, in_stub_router, in_other_lsas, in_rfc3021, in_interface, in_host, HasInterfaceFault, in_kind, in_address, in_cost, in_priority, in_hello, in_dead, in_retransmit, in_transmit_delay, in_mtu, in_port, in_peers, in_passive, in_prefix_suppression, HasHostFault, in_host_address, in_host_cost, AreInterfaceTables, AreHostTables, as_tables}
use Rattle.ospf_config.proofs.TableLists.{any_here, any_later, any_cons, any_none}
use Rattle.ospf_files.specs.Explained.{KnownKey, KeyHas, keys_at_top, keys_of_interface, keys_of_host, router_id_key, area_key, stub_router_key, other_lsas_key, rfc3021_key, interface_key, host_key, kind_key, address_key, cost_key, priority_key, hello_key, dead_key, retransmit_key, transmit_delay_key, mtu_key, port_key, peers_key, passive_key, prefix_suppression_key, host_address_key, host_cost_key}

-- ---- the number of a key's fault

abbrev error : (T : Type 0) → ConfigFault → Result T ConfigFault
error T f = Err f

number_of : (T : Type 0) (f g : ConfigFault) → error T f ≡ error T g → config_fault_number g ≤ 5 → config_fault_number f ≤ 5
number_of T f g e h = let same : f ≡ g = cc in rw same h

no_default : (T : Type 0) (x : T) (f : ConfigFault) → error T f ≡ Ok x → ⊥
no_default T x f e = cc

module _ {D T : Type 0} (Means : D → T → Type 0) where
  value_low : (v : Option D) (f : ConfigFault) → ReadsValue Means v (Err f) → config_fault_number f ≤ 5
  value_low None f h = number_of T f fault.Type h (omega arith)
  value_low (Some d) f h = rw h.0 (omega arith)

  required_low : (typed : Data → Option D) (o : Option Data) (f : ConfigFault) → Required typed Means o (Err f) → config_fault_number f ≤ 5
  required_low typed None f h = number_of T f fault.Missing h (omega arith)
  required_low typed (Some d) f h = value_low (typed d) f h

  optional_low : (typed : Data → Option D) (default : T) (o : Option Data) (f : ConfigFault) → Optional typed Means default o (Err f) → config_fault_number f ≤ 5
  optional_low typed default None f h = absurd (no_default T default f h)
  optional_low typed default (Some d) f h = value_low (typed d) f h

cost_value_low : (v : Option ℤ) (f : ConfigFault) → ReadsCostValue v (Err f) → config_fault_number f ≤ 5
cost_value_low None f h = value_low (IsNumberIn 1 65535) None f h
cost_value_low (Some (pos zero)) f h = number_of ℕ f fault.ZeroCost h (omega arith)
cost_value_low (Some (pos (suc n))) f h = value_low (IsNumberIn 1 65535) (Some (pos (suc n))) f h
cost_value_low (Some (negsuc n)) f h = value_low (IsNumberIn 1 65535) (Some (negsuc n)) f h

cost_low : (o : Option Data) (f : ConfigFault) → ReadsCostAt o (Err f) → config_fault_number f ≤ 5
cost_low None f h = number_of ℕ f fault.Missing h (omega arith)
cost_low (Some d) f h = cost_value_low (as_integer d) f h

module _ (q : Bool) (t : Members) (f : ConfigFault) where
  -- no fault of several keys
  pub key_low : (k : KnownKey) → KeyHas q t f k → config_fault_number f ≤ 5
  key_low router_id_key h = required_low IsRouterIdText as_str (get_member (codes "router_id") t) f h
  key_low area_key h = required_low IsAreaText as_str (get_member (codes "area") t) f h
  key_low stub_router_key h = optional_low (λ b c. b ≡ c) as_bool false (get_member (codes "stub_router") t) f h
  key_low other_lsas_key h = optional_low IsOtherLsasText as_str false (get_member (codes "other_lsas") t) f h
  key_low rfc3021_key h = optional_low (λ b c. b ≡ c) as_bool false (get_member (codes "rfc3021") t) f h
  key_low host_key h = optional_low AreHostTables as_tables [] (get_member (codes "host") t) f h
  key_low host_address_key h = required_low IsHostText as_str (get_member (codes "address") t) f h
  key_low host_cost_key h = required_low (IsNumberIn 0 65535) as_integer (get_member (codes "cost") t) f h
  key_low interface_key h = required_low AreInterfaceTables as_tables (get_member (codes "interface") t) f h
  key_low kind_key h = required_low IsKindText as_str (get_member (codes "kind") t) f h
  key_low address_key h = required_low (IsAddressText (MayHave31Bits q t)) as_str (get_member (codes "address") t) f h
  key_low cost_key h = cost_low (get_member (codes "cost") t) f h
  key_low priority_key h = optional_low (IsNumberIn 0 255) as_integer 1 (get_member (codes "priority") t) f h
  key_low hello_key h = optional_low (IsNumberIn 1 65535) as_integer 10 (get_member (codes "hello") t) f h
  key_low dead_key h = optional_low (IsNumberIn 1 65535) as_integer 40 (get_member (codes "dead") t) f h
  key_low retransmit_key h = optional_low (IsNumberIn 1 65535) as_integer 5 (get_member (codes "retransmit") t) f h
  key_low transmit_delay_key h = optional_low (IsNumberIn 1 3600) as_integer 1 (get_member (codes "transmit_delay") t) f h
  key_low mtu_key h = optional_low (IsNumberIn 576 9000) as_integer 1500 (get_member (codes "mtu") t) f h
  key_low port_key h = optional_low IsPortNumber as_integer None (get_member (codes "port") t) f h
  key_low peers_key h = optional_low ArePortNumbers as_integers [] (get_member (codes "peers") t) f h
  key_low passive_key h = optional_low (λ b c. b ≡ c) as_bool false (get_member (codes "passive") t) f h
  key_low prefix_suppression_key h = optional_low (λ b c. b ≡ c) as_bool false (get_member (codes "prefix_suppression") t) f h

  -- ---- the keys at the top, and those of an interface

  abbrev Has : KnownKey → Type 0
  Has k = KeyHas q t f k

  pub any_low : (ks : List KnownKey) → Any Has ks → config_fault_number f ≤ 5
  any_low ks (i, k, lt, at, h) = key_low k h

  -- one of the keys after the other
  abbrev OneOf : List KnownKey → Type 0
  OneOf [] = ⊥
  OneOf (k ∷ ks) = Has k ⊎ OneOf ks

  one_of : (ks : List KnownKey) → Any Has ks → OneOf ks
  one_of [] h = absurd (any_none Has h)
  one_of (k ∷ ks) h = elim (any_cons Has k ks h) [ inl p ↦ inl p | inr r ↦ inr (one_of ks r) ]

  any_of : (ks : List KnownKey) → OneOf ks → Any Has ks
  any_of [] h = absurd h
  any_of (k ∷ ks) (inl p) = any_here Has k ks p
  any_of (k ∷ ks) (inr r) = any_later Has k ks (any_of ks r)

  pub top_keys_have : HasTopFault t f → Any Has keys_at_top
  top_keys_have (in_router_id h) = any_of keys_at_top (inl h)
  top_keys_have (in_area h) = any_of keys_at_top (inr (inl h))
  top_keys_have (in_stub_router h) = any_of keys_at_top (inr (inr (inl h)))
  top_keys_have (in_other_lsas h) = any_of keys_at_top (inr (inr (inr (inl h))))
  top_keys_have (in_rfc3021 h) = any_of keys_at_top (inr (inr (inr (inr (inl h)))))
  top_keys_have (in_interface h) = any_of keys_at_top (inr (inr (inr (inr (inr (inl h))))))
  top_keys_have (in_host h) = any_of keys_at_top (inr (inr (inr (inr (inr (inr (inl h)))))))

  pub host_keys_have : HasHostFault t f → Any Has keys_of_host
  host_keys_have (in_host_address h) = any_of keys_of_host (inl h)
  host_keys_have (in_host_cost h) = any_of keys_of_host (inr (inl h))

  pub interface_keys_have : HasInterfaceFault q t f → Any Has keys_of_interface
  interface_keys_have (in_kind h) = any_of keys_of_interface (inl h)
  interface_keys_have (in_address h) = any_of keys_of_interface (inr (inl h))
  interface_keys_have (in_cost h) = any_of keys_of_interface (inr (inr (inl h)))
  interface_keys_have (in_priority h) = any_of keys_of_interface (inr (inr (inr (inl h))))
  interface_keys_have (in_hello h) = any_of keys_of_interface (inr (inr (inr (inr (inl h)))))
  interface_keys_have (in_dead h) = any_of keys_of_interface (inr (inr (inr (inr (inr (inl h))))))
  interface_keys_have (in_retransmit h) = any_of keys_of_interface (inr (inr (inr (inr (inr (inr (inl h)))))))
  interface_keys_have (in_transmit_delay h) = any_of keys_of_interface (inr (inr (inr (inr (inr (inr (inr (inl h))))))))
  interface_keys_have (in_mtu h) = any_of keys_of_interface (inr (inr (inr (inr (inr (inr (inr (inr (inl h)))))))))
  interface_keys_have (in_port h) = any_of keys_of_interface (inr (inr (inr (inr (inr (inr (inr (inr (inr (inl h))))))))))
  interface_keys_have (in_peers h) = any_of keys_of_interface (inr (inr (inr (inr (inr (inr (inr (inr (inr (inr (inl h)))))))))))
  interface_keys_have (in_passive h) = any_of keys_of_interface (inr (inr (inr (inr (inr (inr (inr (inr (inr (inr (inr (inl h))))))))))))
  interface_keys_have (in_prefix_suppression h) = any_of keys_of_interface (inr (inr (inr (inr (inr (inr (inr (inr (inr (inr (inr (inr (inl h)))))))))))))

  top_one : OneOf keys_at_top → HasTopFault t f
  top_one (inl h) = in_router_id h
  top_one (inr (inl h)) = in_area h
  top_one (inr (inr (inl h))) = in_stub_router h
  top_one (inr (inr (inr (inl h)))) = in_other_lsas h
  top_one (inr (inr (inr (inr (inl h))))) = in_rfc3021 h
  top_one (inr (inr (inr (inr (inr (inl h)))))) = in_interface h
  top_one (inr (inr (inr (inr (inr (inr (inl h))))))) = in_host h
  top_one (inr (inr (inr (inr (inr (inr (inr h))))))) = absurd h

  host_one : OneOf keys_of_host → HasHostFault t f
  host_one (inl h) = in_host_address h
  host_one (inr (inl h)) = in_host_cost h
  host_one (inr (inr h)) = absurd h

  interface_one : OneOf keys_of_interface → HasInterfaceFault q t f
  interface_one (inl h) = in_kind h
  interface_one (inr (inl h)) = in_address h
  interface_one (inr (inr (inl h))) = in_cost h
  interface_one (inr (inr (inr (inl h)))) = in_priority h
  interface_one (inr (inr (inr (inr (inl h))))) = in_hello h
  interface_one (inr (inr (inr (inr (inr (inl h)))))) = in_dead h
  interface_one (inr (inr (inr (inr (inr (inr (inl h))))))) = in_retransmit h
  interface_one (inr (inr (inr (inr (inr (inr (inr (inl h)))))))) = in_transmit_delay h
  interface_one (inr (inr (inr (inr (inr (inr (inr (inr (inl h))))))))) = in_mtu h
  interface_one (inr (inr (inr (inr (inr (inr (inr (inr (inr (inl h)))))))))) = in_port h
  interface_one (inr (inr (inr (inr (inr (inr (inr (inr (inr (inr (inl h))))))))))) = in_peers h
  interface_one (inr (inr (inr (inr (inr (inr (inr (inr (inr (inr (inr (inl h)))))))))))) = in_passive h
  interface_one (inr (inr (inr (inr (inr (inr (inr (inr (inr (inr (inr (inr (inl h))))))))))))) = in_prefix_suppression h
  interface_one (inr (inr (inr (inr (inr (inr (inr (inr (inr (inr (inr (inr (inr h))))))))))))) = absurd h

  pub top_fault_of : Any Has keys_at_top → HasTopFault t f
  top_fault_of h = top_one (one_of keys_at_top h)

  pub interface_fault_of : Any Has keys_of_interface → HasInterfaceFault q t f
  interface_fault_of h = interface_one (one_of keys_of_interface h)

  pub host_fault_of : Any Has keys_of_host → HasHostFault t f
  host_fault_of h = host_one (one_of keys_of_host h)
