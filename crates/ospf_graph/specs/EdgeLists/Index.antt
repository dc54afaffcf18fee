-- The pairs that a listing's routers and networks name.
use Rattle.std.specs.Prelude.{◌≡◌, ◌<◌, ◌↔◌, ◌^◌, ℕ, List, Contains, Option, MatchOption}
use Rattle.ospf_base.specs.declared.ids.RouterId.{RouterId}
use Rattle.ospf_lsa.specs.declared.link.Link.{Link}
use Rattle.ospf_lsa.specs.declared.link.LinkKind.{LinkKind}
use Rattle.ospf_graph.specs.Advertisements.{Advertisement, router_lsa, network_lsa, IsAddressOn, IsAttached}
use Rattle.ospf_graph.specs.Pairs.{pair_code}
use Rattle.ospf_graph.specs.EdgeLists.Costs.{HasLinkTo}
use Rattle.ospf_graph.specs.EdgeLists.Given.{StandsFor}

-- the pair of a type 1 link: which router it names, and whose it is
abbrev pub LinkNames : RouterId → Link → ℕ → Type 0
LinkNames router link q = (link.kind ≡ LinkKind.PointToPoint) × (q ≡ pair_code link.id router.0)

-- a router-LSA names this pair
abbrev pub LinksOf : Advertisement → ℕ → Type 0
LinksOf (router_lsa r links) q = (link : Link) × Contains links link × LinkNames r link q
LinksOf (network_lsa _ _ _ _) q = ⊥

-- the pair of a router and the network n
abbrev pub NamedOn : ℕ → RouterId → ℕ → Type 0
NamedOn n router q = q ≡ pair_code router.0 n

-- a network-LSA that is the one used for its network names this pair
abbrev pub MembersOf : List Advertisement → Advertisement → ℕ → Type 0
MembersOf adverts (router_lsa _ _) q = ⊥
MembersOf adverts (network_lsa n router mask attached) q =
    StandsFor adverts n router × (member : RouterId) × Contains attached member × NamedOn n member q

-- exactly the pairs of routers of which the second has a type 1 link to the first
abbrev pub AreBackLinks : List Advertisement → List ℕ → Type 0
AreBackLinks adverts pairs =
    (from to : RouterId) → from.0 < 2 ^ 32
    → Contains pairs (pair_code to.0 from.0) ↔ HasLinkTo adverts from LinkKind.PointToPoint to.0

-- exactly the pairs of a router and a network that names it
abbrev pub AreMembers : List Advertisement → List ℕ → Type 0
AreMembers adverts pairs =
    (n : ℕ) (router : RouterId) → n < 2 ^ 32
    → Contains pairs (pair_code router.0 n) ↔ IsAttached adverts n router

-- exactly the first addresses of routers on networks
abbrev pub AreAddressesOn : List Advertisement → (ℕ → Option ℕ) → Type 0
AreAddressesOn adverts address =
    (r : RouterId) (n : ℕ) → n < 2 ^ 32 →
    MatchOption (address (pair_code r.0 n)) ((a : ℕ) → IsAddressOn adverts n r a → ⊥)
    (λ a. IsAddressOn adverts n r a × ((b : ℕ) → IsAddressOn adverts n r b → b ≡ a))

-- the pairs of all routers, of all networks, and the address of a router on a
-- network, are those of the listing
pub record IsIndexed (adverts : List Advertisement) (links members : List ℕ)
    (address : ℕ → Option ℕ) : Type 0 where
  pub links_are : AreBackLinks adverts links
  pub members_are : AreMembers adverts members
  pub addresses_are : AreAddressesOn adverts address
