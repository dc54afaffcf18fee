-- The explanation of a refused text: the places that have its fault, in order.
use Rattle.std.specs.Prelude.{◌≡◌, ◌==◌, ◌&&◌, ◌||◌, ℕ, Bool, true, false, not, ◌+◌, ◌≤◌, List, [], ◌∷◌, ◌++◌, length, take, count_by, Any, Option, Some, None, option_map, IfSome, Ok, Err, String, codes, decimal, string_bytes}
use Rattle.std.specs.declared.alloc.Global.{Global}
use Rattle.std.specs.Char.{is_ascii_alphanumeric}
use Rattle.std.specs.Fmt.{signed_decimal, debug_str}
use Rattle.std.specs.List.{list_all}
use Rattle.toml.specs.Data.{Data, string, integer, array, Items, no_items, item, Members, get_member, type_name}
use Rattle.toml.specs.Parse.{parse_document}
use Rattle.ospf_config.specs.declared.address.InterfaceAddress.{InterfaceAddress}
use Rattle.ospf_files.specs.declared.explained.Explained.{Explained}
use Rattle.ospf_files.specs.declared.explained.Explained.TheVariants as said
use Rattle.ospf_files.specs.declared.explained.KeyExplained.{KeyExplained}
use Rattle.ospf_files.specs.declared.explained.Section.{Section}
use Rattle.ospf_files.specs.declared.explained.Section.TheVariants as section
use Rattle.ospf_config.specs.declared.fault.ConfigFault.{ConfigFault}
use Rattle.ospf_config.specs.declared.fault.ConfigFault.TheVariants as fault
use Rattle.ospf_config.specs.Conflicts.{Conflict}
use Rattle.ospf_config.specs.Keys.{ReadsOwnRouterId, ReadsArea, ReadsStubRouter, ReadsOtherLsas, ReadsRfc3021, asks_rfc3021, ReadsKind, ReadsInterfaceAddress, ReadsCost, ReadsPriority, ReadsHello, ReadsDead, ReadsRetransmit, ReadsTransmitDelay, ReadsMtu, ReadsPort, ReadsPeers, ReadsPassive, ReadsPrefixSuppression, ReadsHostAddress, ReadsHostCost}
use Rattle.ospf_config.specs.Tables.{ReadsInterfaces, ReadsHosts, IsDeadNotOverHello, HasTakenAddress, IsOtherKey, interface_tables, host_tables, keys_of, top_keys, interface_keys, host_keys}

-- ---- the keys

-- the keys that a configuration can have
pub data KnownKey : Type 0 where
  router_id_key : KnownKey
  area_key : KnownKey
  stub_router_key : KnownKey
  other_lsas_key : KnownKey
  rfc3021_key : KnownKey
  interface_key : KnownKey
  host_key : KnownKey
  kind_key : KnownKey
  address_key : KnownKey
  cost_key : KnownKey
  priority_key : KnownKey
  hello_key : KnownKey
  dead_key : KnownKey
  retransmit_key : KnownKey
  transmit_delay_key : KnownKey
  mtu_key : KnownKey
  port_key : KnownKey
  peers_key : KnownKey
  passive_key : KnownKey
  prefix_suppression_key : KnownKey
  host_address_key : KnownKey
  host_cost_key : KnownKey

-- the keys at the top, in the order in which they are listed
abbrev pub keys_at_top : List KnownKey
keys_at_top =
    router_id_key ∷ area_key ∷ stub_router_key ∷ other_lsas_key ∷ rfc3021_key ∷ interface_key
    ∷ host_key ∷ []

-- the keys of an interface, in the order in which they are listed
abbrev pub keys_of_interface : List KnownKey
keys_of_interface =
    kind_key ∷ address_key ∷ cost_key ∷ priority_key ∷ hello_key ∷ dead_key ∷ retransmit_key
    ∷ transmit_delay_key ∷ mtu_key
    ∷ port_key ∷ peers_key ∷ passive_key ∷ prefix_suppression_key ∷ []

-- the keys of a host, in the order in which they are listed
abbrev pub keys_of_host : List KnownKey
keys_of_host = host_address_key ∷ host_cost_key ∷ []

-- the key itself
abbrev pub key_name : KnownKey → List ℕ
key_name router_id_key = codes "router_id"
key_name area_key = codes "area"
key_name stub_router_key = codes "stub_router"
key_name other_lsas_key = codes "other_lsas"
key_name rfc3021_key = codes "rfc3021"
key_name interface_key = codes "interface"
key_name host_key = codes "host"
key_name kind_key = codes "kind"
key_name address_key = codes "address"
key_name cost_key = codes "cost"
key_name priority_key = codes "priority"
key_name hello_key = codes "hello"
key_name dead_key = codes "dead"
key_name retransmit_key = codes "retransmit"
key_name transmit_delay_key = codes "transmit_delay"
key_name mtu_key = codes "mtu"
key_name port_key = codes "port"
key_name peers_key = codes "peers"
key_name passive_key = codes "passive"
key_name prefix_suppression_key = codes "prefix_suppression"
key_name host_address_key = codes "address"
key_name host_cost_key = codes "cost"

-- what belongs at the key, in words
abbrev pub wanted_at : KnownKey → List ℕ
wanted_at router_id_key = codes "a dotted string such as \"10.0.0.1\", not \"0.0.0.0\","
wanted_at area_key = codes "a dotted string such as \"0.0.0.1\","
wanted_at stub_router_key = codes "true or false"
wanted_at other_lsas_key = codes "\"refuse\" or \"pass over\""
wanted_at rfc3021_key = codes "true or false"
wanted_at interface_key = codes "1 to 32 tables [[interface]], not all passive,"
wanted_at host_key = codes "at most 32 tables [[host]]"
wanted_at kind_key = codes "\"point-to-point\" or \"broadcast\""
wanted_at address_key =
    codes "a host address and prefix length, 1 to 30 (31 with rfc3021), such as \"10.0.0.1/30\","
wanted_at cost_key = codes "1 to 65535"
wanted_at priority_key = codes "0 to 255"
wanted_at hello_key = codes "1 to 65535"
wanted_at dead_key = codes "1 to 65535"
wanted_at retransmit_key = codes "1 to 65535"
wanted_at transmit_delay_key = codes "1 to 3600"
wanted_at mtu_key = codes "576 to 9000"
wanted_at port_key = codes "0, or 1024 to 65535,"
wanted_at peers_key = codes "an array of at most 32 ports, each 1024 to 65535,"
wanted_at passive_key = codes "true or false"
wanted_at prefix_suppression_key = codes "true or false"
wanted_at host_address_key = codes "a dotted unicast address such as \"192.0.2.1\","
wanted_at host_cost_key = codes "0 to 65535"

-- the key of the table has the fault, in a configuration that asks for prefixes of 31 bits or does
-- not
abbrev pub KeyHas : Bool → Members → ConfigFault → KnownKey → Type 0
KeyHas q t f router_id_key = ReadsOwnRouterId t (Err f)
KeyHas q t f area_key = ReadsArea t (Err f)
KeyHas q t f stub_router_key = ReadsStubRouter t (Err f)
KeyHas q t f other_lsas_key = ReadsOtherLsas t (Err f)
KeyHas q t f rfc3021_key = ReadsRfc3021 t (Err f)
KeyHas q t f interface_key = ReadsInterfaces t (Err f)
KeyHas q t f host_key = ReadsHosts t (Err f)
KeyHas q t f kind_key = ReadsKind t (Err f)
KeyHas q t f address_key = ReadsInterfaceAddress q t (Err f)
KeyHas q t f cost_key = ReadsCost t (Err f)
KeyHas q t f priority_key = ReadsPriority t (Err f)
KeyHas q t f hello_key = ReadsHello t (Err f)
KeyHas q t f dead_key = ReadsDead t (Err f)
KeyHas q t f retransmit_key = ReadsRetransmit t (Err f)
KeyHas q t f transmit_delay_key = ReadsTransmitDelay t (Err f)
KeyHas q t f mtu_key = ReadsMtu t (Err f)
KeyHas q t f port_key = ReadsPort t (Err f)
KeyHas q t f peers_key = ReadsPeers t (Err f)
KeyHas q t f passive_key = ReadsPassive t (Err f)
KeyHas q t f prefix_suppression_key = ReadsPrefixSuppression t (Err f)
KeyHas q t f host_address_key = ReadsHostAddress t (Err f)
KeyHas q t f host_cost_key = ReadsHostCost t (Err f)

-- ---- one place

-- how many items there are
abbrev pub item_number : Items → ℕ
item_number no_items = 0
item_number (item d ds) = 1 + item_number ds

-- a text in quotes, with its escapes; of one past ASCII no more than that it is some text
abbrev pub IsQuotedText : List ℕ → List ℕ → Type 0
IsQuotedText s text = IfSome (debug_str s) (λ quoted. text ≡ quoted)

-- the value in words
abbrev pub IsValueText : Data → List ℕ → Type 0
IsValueText (integer z) text = text ≡ signed_decimal z
IsValueText (string s) text = IsQuotedText s text
IsValueText (array ds) text = text ≡ codes "a list of " ++ decimal (item_number ds)
IsValueText d text = text ≡ codes "a " ++ type_name d

-- what was found, in words; none if nothing was
abbrev pub IsFoundText : Option Data → Option (List ℕ) → Type 0
IsFoundText None found = found ≡ None
IsFoundText (Some d) None = ⊥
IsFoundText (Some d) (Some text) = IsValueText d text

-- a byte of a key that needs no quotes
abbrev pub is_bare_byte : ℕ → Bool
is_bare_byte b = is_ascii_alphanumeric b || (b == 95 || b == 45)

-- a key needs no quotes: it has bytes, all of them such
abbrev pub is_bare : List ℕ → Bool
is_bare key = not (length key == 0) && list_all is_bare_byte key

-- a key as it is shown: as it is where it needs no quotes, else quoted as a text is
abbrev pub IsKeyText : List ℕ → List ℕ → Type 0
IsKeyText key text = elim (is_bare key) [
  | true ↦ text ≡ key
  | false ↦ IsQuotedText key text
]

-- the place of a key: the table that it stands in, what belongs there and what was found
pub record IsKeyPlace (at : Section) (t : Members) (key wanted : List ℕ) (e : Explained)
    : Type 0 where
  pub place : KeyExplained
  pub is_key : e ≡ said.Key place
  pub section_is : place.section ≡ at
  pub key_is : IsKeyText key (string_bytes place.key)
  pub wanted_is : place.wanted.now ≡ wanted
  pub found_is : IsFoundText (get_member key t) (option_map (λ text. string_bytes text) place.found)

-- the place of a key that the configuration knows
abbrev pub IsKnownPlace : Section → Members → KnownKey → Explained → Type 0
IsKnownPlace at t k e = IsKeyPlace at t (key_name k) (wanted_at k) e

-- the place of a key that it does not know
abbrev pub IsUnknownPlace : Section → Members → List ℕ → Explained → Type 0
IsUnknownPlace at t key e = IsKeyPlace at t key (codes "a known key") e

-- ---- the places of a table

-- the places of those keys for which the fact holds, in order
pub data ArePlacesOf {K : Type 0} (Has : K → Type 0) (IsPlace : K → Explained → Type 0)
    : List K → List Explained → Type 0 where
  no_key : ArePlacesOf Has IsPlace [] []
  taken : {k : K} {ks : List K} {e : Explained} {es : List Explained} → Has k → IsPlace k e
      → ArePlacesOf Has IsPlace ks es → ArePlacesOf Has IsPlace (k ∷ ks) (e ∷ es)
  passed : {k : K} {ks : List K} {es : List Explained} → (Has k → ⊥) → ArePlacesOf Has IsPlace ks es
      → ArePlacesOf Has IsPlace (k ∷ ks) es

-- one place where the fact holds, and none where it does not
pub data IsPlaceWhere (Fact : Type 0) (IsPlace : Explained → Type 0) : List Explained → Type 0 where
  told : {e : Explained} → Fact → IsPlace e → IsPlaceWhere Fact IsPlace (e ∷ [])
  not_told : (Fact → ⊥) → IsPlaceWhere Fact IsPlace []

-- the places at the top
abbrev pub AreTopPlaces : Members → ConfigFault → List Explained → Type 0
AreTopPlaces t fault.Unknown es =
    ArePlacesOf (IsOtherKey top_keys) (IsUnknownPlace section.Top t) (keys_of t) es
AreTopPlaces t f es =
    ArePlacesOf (KeyHas (asks_rfc3021 t) t f) (IsKnownPlace section.Top t) keys_at_top es

-- both interfaces have an address, and these are in conflict
pub record AreInConflict (rfc3021 : Bool) (first second : Members) : Type 0 where
  pub a : InterfaceAddress
  pub b : InterfaceAddress
  pub first_address : ReadsInterfaceAddress rfc3021 first (Ok a)
  pub second_address : ReadsInterfaceAddress rfc3021 second (Ok b)
  pub conflict : Conflict a b

-- the places of the interface of this number, where the interfaces before it have these tables
abbrev pub AreInterfacePlaces : Bool → ConfigFault → ℕ → List Members → Members → List Explained
    → Type 0
AreInterfacePlaces q fault.SamePrefix n before t es =
    IsPlaceWhere (Any (λ first. AreInConflict q first t) before)
    (IsKeyPlace (section.Interface n) t (codes "address")
    (codes "a prefix and an address that no earlier interface has")) es
AreInterfacePlaces q fault.DeadNotOverHello n before t es =
    IsPlaceWhere (IsDeadNotOverHello t)
    (IsKeyPlace (section.Interface n) t (codes "dead")
    (codes "more than `hello` (defaults: dead 40, hello 10)")) es
AreInterfacePlaces q fault.Unknown n before t es =
    ArePlacesOf (IsOtherKey interface_keys) (IsUnknownPlace (section.Interface n) t) (keys_of t) es
AreInterfacePlaces q f n before t es =
    ArePlacesOf (KeyHas q t f) (IsKnownPlace (section.Interface n) t) keys_of_interface es

-- the places of the host of this number, beside interfaces of these tables, where the hosts before
-- it have those
abbrev pub AreHostPlaces : Bool → List Members → ConfigFault → ℕ → List Members → Members
    → List Explained → Type 0
AreHostPlaces q interfaces fault.SamePrefix n before t es =
    IsPlaceWhere (HasTakenAddress q interfaces before t)
    (IsKeyPlace (section.Host n) t (codes "address")
    (codes "an address that no interface and no earlier host has")) es
AreHostPlaces q interfaces fault.Unknown n before t es =
    ArePlacesOf (IsOtherKey host_keys) (IsUnknownPlace (section.Host n) t) (keys_of t) es
AreHostPlaces q interfaces f n before t es =
    ArePlacesOf (KeyHas q t f) (IsKnownPlace (section.Host n) t) keys_of_host es

-- the places of these tables, one table after the other, each with those of its number behind the
-- tables before it
pub data AreAllPlaces (AreOwn : ℕ → List Members → Members → List Explained → Type 0)
    : List Members → List Explained → Type 0 where
  no_table : AreAllPlaces AreOwn [] []
  one_more : {before : List Members} (t : Members) (own : List Explained) {es : List Explained}
      → AreAllPlaces AreOwn before es → AreOwn (length before) before t own
      → AreAllPlaces AreOwn (before ++ t ∷ []) (es ++ own)

-- the places of a table: those at the top, those of its interfaces, and then those of its hosts
pub record AreTablePlaces (t : Members) (f : ConfigFault) (es : List Explained) : Type 0 where
  pub at_top : List Explained
  pub of_interfaces : List Explained
  pub of_hosts : List Explained
  pub top : AreTopPlaces t f at_top
  pub interfaces : AreAllPlaces (AreInterfacePlaces (asks_rfc3021 t) f) (interface_tables t)
      of_interfaces
  pub hosts : AreAllPlaces (AreHostPlaces (asks_rfc3021 t) (interface_tables t) f) (host_tables t)
      of_hosts
  pub all : es ≡ at_top ++ (of_interfaces ++ of_hosts)

-- ---- the places of a text

-- the number of the line, from 1, of a place in the text
pub record IsLineIn (text : List ℕ) (line : ℕ) : Type 0 where
  pub place : ℕ
  pub within : place ≤ length text
  pub counted : line ≡ 1 + count_by (λ byte. byte == 10) (take place text)

-- one place, the line where a text is no TOML
pub record IsLinePlace (text : List ℕ) (es : List Explained) : Type 0 where
  pub line : ℕ
  pub is_line : es ≡ said.Line line ∷ []
  pub line_is : IsLineIn text line

-- the places of a text that have the fault
abbrev pub IsExplained : List ℕ → ConfigFault → List Explained → Type 0
IsExplained text fault.NotToml es = IsLinePlace text es
IsExplained text f es = (t : Members) × (parse_document text ≡ Some t) × AreTablePlaces t f es

-- ---- what is printed

-- what was found in place of what is expected
abbrev pub found_here_text : Option (String Global) → List ℕ
found_here_text None = codes "none found"
found_here_text (Some text) = string_bytes text ++ codes " found"

-- the table that it stands in, if not at the top
abbrev pub section_text : Section → List ℕ
section_text section.Top = []
section_text (section.Interface n) = codes "interface " ++ decimal n ++ codes ": "
section_text (section.Host n) = codes "host " ++ decimal n ++ codes ": "

-- as `interface 0: mtu: 576 to 9000 wanted, 100 found`
abbrev pub key_explained_text : KeyExplained → List ℕ
key_explained_text p =
    section_text p.section
    ++ (string_bytes p.key ++ codes ": " ++ p.wanted.now ++ codes " wanted, ")
    ++ found_here_text p.found

-- what is printed of a place
abbrev pub explained_text : Explained → List ℕ
explained_text (said.Line n) = codes "line " ++ decimal n ++ codes ": not valid TOML"
explained_text (said.Key p) = key_explained_text p
