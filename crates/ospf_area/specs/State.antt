-- A router's part of an area, as its laws read it (RFC 2328, sections 8 to 13).
use Rattle.std.specs.Prelude.{ℕ, ℤ, Bool, List, [], Option, None, Some, find, slice_get, option_map}
use Rattle.std.specs.List.{list_any}
use Rattle.ospf_base.specs.Keys.{same_key}
use Rattle.ospf_base.specs.declared.ids.AreaId.{AreaId}
use Rattle.ospf_base.specs.declared.ids.Instance.{Instance}
use Rattle.ospf_base.specs.declared.ids.LsaKey.{LsaKey}
use Rattle.ospf_base.specs.declared.ids.RouterId.{RouterId}
use Rattle.ospf_base.specs.declared.stub_network.StubNetwork.{StubNetwork}
use Rattle.ospf_neighbour.specs.declared.iface.machine.Iface.{Iface}
use Rattle.ospf_lsa.specs.declared.header.LsaHeader.{LsaHeader}
use Rattle.ospf_lsdb.specs.Database as lsdb
use Rattle.ospf_lsdb.specs.Database.{Held, Entry, lsa_of}
use Rattle.ospf_neighbour.specs.Laws.{Waits}
use Rattle.ospf_neighbour.specs.Neighbour.{NeighbourValue}
use Rattle.ospf_neighbour.specs.Machine.{is_loading}
use Rattle.ospf_neighbour.specs.Neighbours.{neighbour_of}
use Rattle.ospf_neighbour.specs.declared.machine.NeighbourState.{NeighbourState}
use Rattle.ospf_neighbour.specs.declared.machine.NeighbourState.TheVariants.{Down}
use Rattle.ospf_area.specs.declared.state.LinkSettings.{LinkSettings}
use Rattle.ospf_area.specs.declared.state.Numbering.{Numbering}

-- ---- the state

-- a link of a router (9)
pub record LinkValue : Type 0 where
  pub iface : Iface
  -- what never changes of it, besides the settings of its interface
  pub settings : LinkSettings
  -- in rising Router ID
  pub neighbours : List NeighbourValue
  -- the acknowledgements that go out at the next tick (13.5)
  pub delayed : List LsaHeader
  -- an election is due at the end of the step (9.4)
  pub elects : Bool

-- what a router stores of its area, except the routing table and what that is made from (5 and 6)
pub record AreaValue : Type 0 where
  pub router : RouterId
  pub area : AreaId
  -- it is a stub router (RFC 6987)
  pub stub_router : Bool
  -- LSAs of LS types 3 to 5 are acknowledged and not stored; otherwise they are refused
  pub passes_over : Bool
  -- in configuration order
  pub links : List LinkValue
  -- the stub networks that its router-LSA lists behind its links (12.4.1, appendix C.7)
  pub stubs : List StubNetwork
  -- the entries, in order of key (12.2)
  pub database : List Held
  -- the direct acknowledgements of the Update that is being processed (13.5)
  pub direct : List LsaHeader
  -- how far the numbers of each of its own keys that it has numbered have advanced (12.1.6)
  pub numbering : List Numbering
  -- what the numbers of its other keys begin above
  pub floor : ℤ
  -- the present tick
  pub tick : ℕ
  -- the next DD sequence number (10.8)
  pub next_dd : ℕ
  -- the keys whose copy went out in an Update in this tick (13, step 8)
  pub sent : List LsaKey
  -- the keys of the self-originated LSAs that this step installed and must still respond to (13.4)
  pub heard : List LsaKey
  -- the greatest of the floor and of all numbers of keys of its own
  pub max_seq : ℤ

-- ---- what is read of it

-- what router q is on link l, which may not be there
abbrev pub neighbour_at : List LinkValue → ℕ → RouterId → Option NeighbourValue
neighbour_at links l q =
    neighbour_of (elim (slice_get links l) [ None ↦ [] | Some link ↦ link.neighbours ]) q

-- what it is to this router
abbrev pub neighbour : AreaValue → ℕ → RouterId → Option NeighbourValue
neighbour s l q = neighbour_at s.links l q

-- the state of a neighbour that may not be there: then it is Down (10.1)
abbrev pub state_in : Option NeighbourValue → NeighbourState
state_in None = Down
state_in (Some n) = n.state

-- the instance waits for the acknowledgement of a neighbour that may not be there
abbrev pub WaitsIn : Option NeighbourValue → Instance → Type 0
WaitsIn None i = ⊥
WaitsIn (Some n) i = Waits n i

-- the router waits for q on link l to acknowledge the instance (13.6)
abbrev pub Awaits : AreaValue → ℕ → RouterId → Instance → Type 0
Awaits s l q i = WaitsIn (neighbour s l q) i

-- the database's entry of a key (12.2)
abbrev pub database_entry : AreaValue → LsaKey → Option Entry
database_entry s key = lsdb.entry_of s.database key

-- the bytes of the database's copy of a key, at the present age, if it has one (12.2)
abbrev pub copy_of : AreaValue → LsaKey → Option (List ℕ)
copy_of s key = option_map lsa_of (database_entry s key)

-- some neighbour of the router is in Exchange or Loading (13, step 4; 14)
abbrev pub some_link_loading : List LinkValue → Bool
some_link_loading links =
    list_any (λ (link : LinkValue). list_any (λ n. is_loading n.state) link.neighbours) links

-- ---- numbers

-- how far the numbers of a key have advanced, if it was numbered
abbrev pub numbering_of : List Numbering → LsaKey → Option Numbering
numbering_of numbering key = find (λ n. same_key n.key key) numbering

-- the number that the router keeps for a key: the floor, if the key was not numbered. The next
-- one issued is one more (12.1.6)
abbrev pub kept_number : AreaValue → LsaKey → ℤ
kept_number s key = elim (numbering_of s.numbering key) [ None ↦ s.floor | Some n ↦ n.kept ]
