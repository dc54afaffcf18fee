-- Parts of definitions of specs/ by names of their own, for the proofs.
use Rattle.std.specs.Prelude.{◌&&◌, ◌++◌, ◌∷◌, ℕ, Bool, if◌then◌else◌, List, map, filter, nat_lt, take, drop, []}
use Rattle.ospf_lsa.specs.declared.link.Link.{Link}
use Rattle.ospf_area.specs.State.{LinkValue}
use Rattle.ospf_base.specs.declared.ids.RouterId.{RouterId}
use Rattle.ospf_neighbour.specs.Neighbour.{NeighbourValue}
use Rattle.ospf_originate.specs.Wants.Wanted.{is_transit, network_link, subnet_link, subnets_of, is_full, router_link}
use Rattle.ospf_base.specs.declared.interface.InterfaceKind.{InterfaceKind}
use Rattle.ospf_base.specs.declared.interface.InterfaceKind.TheVariants as kind

-- to the transit network of a broadcast link, or else to its subnet (12.4.1.2)
abbrev pub broadcast_link : Bool → LinkValue → Link
broadcast_link stub_router a = if is_transit a then network_link stub_router a else subnet_link a

-- the links of a link that is up: on one with two ends the fully adjacent neighbour, and then the subnet
abbrev pub links_of_kind : InterfaceKind → Bool → LinkValue → List Link
links_of_kind o stub_router a = elim o [
  | kind.PointToPoint ↦ map (router_link stub_router a) (filter is_full a.neighbours) ++ subnets_of a
  | kind.Broadcast ↦ broadcast_link stub_router a ∷ []
]

-- the metric of links to routers and to transit networks: a stub router's are MaxLinkMetric (RFC 6987)
abbrev pub through_metric : Bool → ℕ → ℕ
through_metric stub_router cost = if stub_router then 0xffff else cost

-- the neighbour is Full, and its Router ID is less than the router's own
abbrev pub is_full_before : RouterId → NeighbourValue → Bool
is_full_before router n = is_full n && nat_lt n.router.0 router.0

-- the neighbour is Full, and its Router ID is greater than the router's own
abbrev pub is_full_behind : RouterId → NeighbourValue → Bool
is_full_behind router n = is_full n && nat_lt router.0 n.router.0

-- the contents of an LSA, number and checksum aside
abbrev pub aside : List ℕ → List ℕ
aside contents = take 10 contents ++ drop 16 contents
