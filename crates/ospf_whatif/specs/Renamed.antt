-- Transit networks under other names. The Link State ID of a network is the address of its
-- Designated Router, and its network-LSA is that router's (RFC 2328, section 12.4.2): both change
-- when another router takes over.
use Rattle.std.specs.Prelude.{◌≡◌, ◌≤◌, ◌↔◌, ◌⊎◌, ℕ, List, Contains, map}
use Rattle.ospf_base.specs.Prefixes.{IsPrefixOf}
use Rattle.ospf_base.specs.declared.ids.RouterId.{RouterId}
use Rattle.ospf_base.specs.declared.prefix.Prefix.{Prefix}
use Rattle.ospf_lsa.specs.declared.link.Link.{Link}
use Rattle.ospf_lsa.specs.declared.link.LinkKind.{LinkKind}
use Rattle.ospf_lsa.specs.declared.link.LinkKind.TheVariants.{Transit}
use Rattle.ospf_graph.specs.Advertisements.{Advertisement, router_lsa, network_lsa, IsNetwork}
use Rattle.ospf_graph.specs.Routes.{IsEnd, IsTable}
use Rattle.ospf_graph.specs.declared.graph.Vertex.TheVariants.{Network}
use Rattle.ospf_graph.specs.declared.route.Route.{Route}
use Rattle.ospf_whatif.specs.LinksBack.{IsLinked}

-- ---- a listing under new names

-- the Link ID of a type 2 link names a network (section 12.4.1.2), that of another type does not
abbrev pub renamed_id : (ℕ → ℕ) → LinkKind → ℕ → ℕ
renamed_id name Transit id = name id
renamed_id name _ id = id

-- the same link, to the network under its new name
abbrev pub renamed_link : (ℕ → ℕ) → Link → Link
renamed_link name l =
    record {
      id = renamed_id name l.kind l.id;
      link_data = l.link_data;
      kind = l.kind;
      metric = l.metric;
    }

-- the same LSA under the new names; a network-LSA is the new owner's, its
-- Advertising Router (section 12.4.2)
abbrev pub renamed_lsa : (ℕ → ℕ) → (ℕ → RouterId → RouterId) → Advertisement → Advertisement
renamed_lsa name owner (router_lsa router links) = router_lsa router (map (renamed_link name) links)
renamed_lsa name owner (network_lsa n router mask attached) =
    network_lsa (name n) (owner n router) mask attached

-- the LSAs of the area under the new names
abbrev pub renamed : (ℕ → ℕ) → (ℕ → RouterId → RouterId) → List Advertisement → List Advertisement
renamed name owner adverts = map (renamed_lsa name owner) adverts

-- ---- names

-- the router has a network-LSA of the network
abbrev pub IsOwner : List Advertisement → ℕ → RouterId → Type 0
IsOwner adverts n router =
    (mask : ℕ) × (attached : List RouterId) × Contains adverts (network_lsa n router mask attached)

-- an LSA names the network
abbrev pub IsNetworkNamed : List Advertisement → ℕ → Type 0
IsNetworkNamed adverts n = IsLinked adverts n ⊎ ((router : RouterId) × IsOwner adverts n router)

-- new names that distinguish the networks of the area, and order them, as the old ones do
pub record AreNames (name : ℕ → ℕ) (owner : ℕ → RouterId → RouterId) (adverts : List Advertisement)
    : Type 0 where
  -- no two networks get one name
  pub apart : (m n : ℕ) → IsNetworkNamed adverts m → IsNetworkNamed adverts n → name m ≡ name n
      → m ≡ n
  -- the owners of one network keep their order: of its LSAs the one of the largest Router ID counts
  pub owners : (n : ℕ) (q r : RouterId) → IsOwner adverts n q → IsOwner adverts n r →
      q.0 ≤ r.0 ↔ (owner n q).0 ≤ (owner n r).0
  -- the new name lies in the prefix of the network, as the old one does
  pub prefixes : (n mask : ℕ) (attached : List RouterId) (prefix : Prefix)
      → IsNetwork adverts n mask attached →
      IsPrefixOf n mask prefix ↔ IsPrefixOf (name n) mask prefix
  -- the networks of one prefix keep their order: of those as near the one of the largest ID counts
  pub order : (prefix : Prefix) (m n : ℕ) → IsEnd adverts prefix (Network m) 0 →
      IsEnd adverts prefix (Network n) 0 → m ≤ n → name m ≤ name n

-- the routing tables under the new names are those under the old ones
abbrev pub NetworksAreButNames : Type 0
NetworksAreButNames =
    (name : ℕ → ℕ) (owner : ℕ → RouterId → RouterId) (adverts : List Advertisement) →
    AreNames name owner adverts → (root : RouterId) (table : List Route) →
    IsTable adverts root table ↔ IsTable (renamed name owner adverts) root table
