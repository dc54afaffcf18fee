-- What changes make of the LSAs of an area: failures (RFC 2328, section 12.4.1), costs of
-- interfaces (sections 12.4.1.1 and 12.4.1.2) and drained routers (RFC 6987).
use Rattle.std.specs.Prelude.{◌≡◌, ◌≢◌, ◌⊎◌, ◌==◌, ◌&&◌, ◌||◌, ◌<◌, ◌^◌, ◌∷◌, [], ⊤, ℕ, Bool, true, false, not, nat_lt, if◌then◌else◌, Contains, List, length, map}
use Rattle.std.specs.List.{AllZip, list_any}
use Rattle.ospf_base.specs.declared.ids.RouterId.{RouterId}
use Rattle.ospf_lsa.specs.declared.link.Link.{Link}
use Rattle.ospf_lsa.specs.declared.link.LinkKind.{LinkKind}
use Rattle.ospf_lsa.specs.declared.link.LinkKind.TheVariants as kind
use Rattle.ospf_graph.specs.Advertisements.{Advertisement, router_lsa, network_lsa}
use Rattle.ospf_graph.specs.EdgeLists.Listed.{advertisements_of}
use Rattle.ospf_whatif.specs.Failure.{IsLeftBy, inner_of, kept_links, without}
use Rattle.ospf_whatif.specs.Subnets.{is_address, is_held, is_link_to, is_stub_link}
use Rattle.ospf_change.specs.declared.edit.change.Change.{Change}
use Rattle.ospf_change.specs.declared.edit.change.Change.TheVariants.{Down, Cost, CostTo, Drain}

-- ---- links

-- a link that leaves by an interface: a type 1 link to a router, or a type 2 link to a transit
-- network. Its Link Data is the address of the interface, or its index where it has none
abbrev pub is_interface_link : Link → Bool
is_interface_link l = by_kind l.kind
  where
    by_kind : LinkKind → Bool
    by_kind kind.PointToPoint = true
    by_kind kind.Transit = true
    by_kind _ = false

-- a type 1 link
abbrev pub is_router_link : Link → Bool
is_router_link l = by_kind l.kind
  where
    by_kind : LinkKind → Bool
    by_kind kind.PointToPoint = true
    by_kind _ = false

-- a type 3 link to a subnet that holds the address, and not to a host alone
abbrev pub is_subnet_with : ℕ → Link → Bool
is_subnet_with address l =
    is_stub_link l && (not (l.link_data == 0xFFFFFFFF) && (is_address address && is_held l address))

-- the other link is to a longer such subnet
abbrev pub is_longer_subnet : ℕ → Link → Link → Bool
is_longer_subnet address l other =
    is_subnet_with address other && nat_lt l.link_data other.link_data

-- the longest subnet that holds the address, of all in these links of a router: the subnet of its
-- interface with this address (12.4.1.1)
abbrev pub is_own_subnet : List Link → ℕ → Link → Bool
is_own_subnet links address l =
    is_subnet_with address l && not (list_any (is_longer_subnet address l) links)

-- the same link at another cost
abbrev pub with_cost : ℕ → Link → Link
with_cost cost l = record { id = l.id; link_data = l.link_data; kind = l.kind; metric = cost }

-- ---- a change of costs

-- the router whose costs change
abbrev pub changes_costs_of : Change → RouterId → Bool
changes_costs_of (Down f) router = false
changes_costs_of (Cost of address cost) router = of.0 == router.0
changes_costs_of (CostTo of other cost) router = of.0 == router.0
changes_costs_of (Drain of) router = of.0 == router.0

-- the new cost; of a drained router MaxLinkMetric (RFC 6987, section 2)
abbrev pub cost_of : Change → ℕ
cost_of (Down f) = 0
cost_of (Cost of address cost) = cost
cost_of (CostTo of other cost) = cost
cost_of (Drain of) = 0xFFFF

-- the link leaves by an interface whose cost changes: that with the address, or those on
-- point-to-point links to the other router
abbrev pub picks : Change → Link → Bool
picks (Cost of address cost) l = is_interface_link l && (l.link_data == address.0)
picks (CostTo of other cost) l = is_link_to l other
picks c l = false

-- the link is to the own subnet of a point-to-point link whose cost changes
abbrev pub has_own_subnet : Change → List Link → Link → Bool
has_own_subnet c links l =
    list_any (λ out. picks c out && (is_router_link out && is_own_subnet links out.link_data l))
    links

-- the link gets the new cost: it leaves by such an interface, or is to the own subnet of one on a
-- point-to-point link, which costs the same (12.4.1.1). Of a drained router all links get it but
-- those to subnets (RFC 6987, section 2)
abbrev pub gets_cost : Change → List Link → Link → Bool
gets_cost (Down f) links l = false
gets_cost (Drain of) links l = not (is_stub_link l)
gets_cost c links l = picks c l || has_own_subnet c links l

-- a link of a router of these links, after the change
abbrev pub priced_link : Change → List Link → Link → Link
priced_link c links l = if gets_cost c links l then with_cost (cost_of c) l else l

-- a link of a router of these links is as it was after the change
abbrev pub keeps_cost : Change → List Link → Link → Bool
keeps_cost c links l = not (gets_cost c links l) || (l.metric == cost_of c)

-- the links of a router after the change: those of another router stay
abbrev pub priced_links : Change → RouterId → List Link → List Link
priced_links c router links =
    if changes_costs_of c router then map (priced_link c links) links else links

-- ---- the area after a change

-- an LSA where each router lists so much of its links
abbrev pub changed_lsa : (RouterId → List Link → List Link) → Advertisement → Advertisement
changed_lsa links_after (router_lsa router links) = router_lsa router (links_after router links)
changed_lsa links_after (network_lsa n router mask attached) = network_lsa n router mask attached

-- the LSAs of the area after the change
abbrev pub changed_area : Change → List Advertisement → List Advertisement
changed_area (Down f) adverts = without f adverts
changed_area c adverts = map (changed_lsa (priced_links c)) adverts

-- after several changes, one after the other
abbrev pub changed_by : List Change → List Advertisement → List Advertisement
changed_by [] adverts = adverts
changed_by (c ∷ more) adverts = changed_by more (changed_area c adverts)

-- ---- its bytes

-- the links of a router of the area after the change
abbrev pub links_after : List Advertisement → Change → RouterId → List Link → List Link
links_after adverts (Down f) router links = kept_links (inner_of f adverts) f router links
links_after adverts c router links = priced_links c router links

-- a listing before and after the change: network-LSAs, and router-LSAs whose links do not change,
-- are the same byte for byte. Other router-LSAs are rebuilt with the links after the change, with
-- their sequence number, age 0 and no flags (12.4.1)
abbrev pub AreChanged : Change → List (List ℕ) → List (List ℕ) → Type 0
AreChanged c before after =
    AllZip (IsLeftBy (links_after (advertisements_of before) c)) before after

-- before and after several changes, one after the other
abbrev pub AreChangedBy : List Change → List (List ℕ) → List (List ℕ) → Type 0
AreChangedBy [] before after = after ≡ before
AreChangedBy (c ∷ more) before after =
    (next : List (List ℕ)) × AreChanged c before next × AreChangedBy more next after

-- ---- too many links

-- the LSA changes, and then has more links than the largest LSA holds (appendix A.4.2)
abbrev pub IsChangedLarge : (RouterId → List Link → List Link) → Advertisement → Type 0
IsChangedLarge links_after (router_lsa router links) =
    (links_after router links ≢ links) × (1361 < length (links_after router links))
IsChangedLarge links_after (network_lsa n router mask attached) = ⊥

-- one of these LSAs does
abbrev pub HasLargeThen : (RouterId → List Link → List Link) → List Advertisement → Type 0
HasLargeThen links_after adverts =
    (advert : Advertisement) × Contains adverts advert × IsChangedLarge links_after advert

-- some LSA of the area is too large after the change
abbrev pub HasChangedLarge : Change → List Advertisement → Type 0
HasChangedLarge c adverts = HasLargeThen (links_after adverts c) adverts

-- or after one of several changes, one after the other
abbrev pub HasChangedLargeBy : List Change → List Advertisement → Type 0
HasChangedLargeBy [] adverts = ⊥
HasChangedLargeBy (c ∷ more) adverts =
    HasChangedLarge c adverts ⊎ HasChangedLargeBy more (changed_area c adverts)

-- ---- what may be asked for

-- a metric of a link to a router or to a transit network (appendix A.4.2): 0 is none
abbrev pub IsCost : ℕ → Type 0
IsCost n = (0 < n) × (n < 2 ^ 16)

-- the cost of a change is one
abbrev pub HasRightCost : Change → Type 0
HasRightCost (Down f) = ⊤
HasRightCost c = IsCost (cost_of c)
