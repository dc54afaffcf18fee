-- What an area becomes after a failure (RFC 2328, sections 12.4.1 and 16.1).
use Rattle.std.specs.Prelude.{◌≡◌, ◌≢◌, ◌⊎◌, ◌==◌, ◌&&◌, ◌||◌, ◌<◌, ◌∷◌, [], ℕ, Bool, false, not, Contains, List, length, map, filter, bit_and}
use Rattle.std.specs.List.{fold, list_any}
use Rattle.ospf_base.specs.Masks.{mask_of}
use Rattle.ospf_base.specs.declared.ids.RouterId.{RouterId}
use Rattle.ospf_base.specs.declared.prefix.Prefix.{Prefix}
use Rattle.ospf_lsa.specs.Header.{header_of}
use Rattle.ospf_lsa.specs.Lsa.{IsNetworkLsa, IsRouterLsa, key_of, links_of}
use Rattle.ospf_lsa.specs.Value.{IsMade, router_value}
use Rattle.ospf_lsa.specs.declared.link.Link.{Link}
use Rattle.ospf_lsa.specs.declared.link.LinkKind.{LinkKind}
use Rattle.ospf_lsa.specs.declared.link.LinkKind.TheVariants as kind
use Rattle.ospf_graph.specs.EdgeLists.Addresses.{links_by}
use Rattle.ospf_graph.specs.Advertisements.{Advertisement, router_lsa, network_lsa}
use Rattle.ospf_whatif.specs.Subnets.{inner_between, is_held, is_link_to}
use Rattle.ospf_whatif.specs.declared.failure.AreaFailure as failure
use Rattle.ospf_whatif.specs.declared.failure.AreaFailure.TheVariants.{Attachment, Links, Network, Router, Stub}
use Rattle.ospf_whatif.specs.declared.failure.AreaFailure.TheVariants as fails

-- ---- links

-- a type 2 link to the transit network
abbrev pub is_transit_of : Link → ℕ → Bool
is_transit_of l n = by_kind l.kind
  where
    by_kind : LinkKind → Bool
    by_kind kind.Transit = l.id == n
    by_kind _ = false

-- a type 3 link to the prefix
abbrev pub is_stub_of : Link → Prefix → Bool
is_stub_of l prefix = by_kind l.kind
  where
    by_kind : LinkKind → Bool
    by_kind kind.Stub =
        (l.link_data == mask_of prefix.length)
        && (bit_and l.id (mask_of prefix.length) == prefix.address.0)
    by_kind _ = false

-- the Link Data of a link lies in the subnet, and in none of the longer ones
abbrev pub is_of_subnet : List Link → Prefix → ℕ → Bool
is_of_subnet inner subnet link_data =
    (bit_and link_data (mask_of subnet.length) == subnet.address.0)
    && not (list_any (λ stub. is_held stub link_data) inner)

-- a type 1 link to the router from an address in the subnet, which lies in no longer one
abbrev pub is_wire_link : List Link → Link → RouterId → Prefix → Bool
is_wire_link inner l router subnet = is_link_to l router && is_of_subnet inner subnet l.link_data

-- what an interface to a router in a subnet makes (section 12.4.1.1): that type 1 link, and the
-- type 3 link to the subnet
abbrev pub is_wire_end : List Link → Link → RouterId → Prefix → Bool
is_wire_end inner l router subnet = is_wire_link inner l router subnet || is_stub_of l subnet

-- ---- failures

-- the longer subnets of links between two routers inside the one that fails, as the area has them
abbrev pub inner_of : failure.AreaFailure → List Advertisement → List Link
inner_of (fails.Link a b subnet) adverts =
    inner_between subnet a b (links_by a adverts) (links_by b adverts)
inner_of (fails.End router other subnet) adverts =
    inner_between subnet router other (links_by router adverts) (links_by other adverts)
inner_of _ adverts = []

-- the links that the router-LSA of a router has lost once the routers have advertised the failure:
-- an interface that is down makes no link, and one that is up makes none to a router that it no
-- longer hears (section 12.4.1)
abbrev pub takes : List Link → failure.AreaFailure → RouterId → Link → Bool
takes inner (fails.Link a b subnet) router l =
    ((router.0 == a.0) && is_wire_end inner l b subnet)
    || ((router.0 == b.0) && is_wire_end inner l a subnet)
takes inner (fails.End down other subnet) router l =
    ((router.0 == down.0) && is_wire_end inner l other subnet)
    || ((router.0 == other.0) && is_wire_link inner l down subnet)
takes inner (Links a b) router l =
    ((router.0 == a.0) && is_link_to l b) || ((router.0 == b.0) && is_link_to l a)
takes inner (Attachment attached network) router l =
    (router.0 == attached.0) && is_transit_of l network
takes inner (Network network) router l = is_transit_of l network
takes inner (Router gone) router l = (router.0 == gone.0) || is_link_to l gone
takes inner (Stub down prefix) router l = (router.0 == down.0) && is_stub_of l prefix

-- those that it takes in the area
abbrev pub takes_in : List Advertisement → failure.AreaFailure → RouterId → Link → Bool
takes_in adverts f router l = takes (inner_of f adverts) f router l

-- ---- the area after it

-- those that it keeps
abbrev pub kept_links : List Link → failure.AreaFailure → RouterId → List Link → List Link
kept_links inner f router links = filter (λ l. not (takes inner f router l)) links

-- network-LSAs stay as they are: a router without a link to the network is not on it, whatever the
-- network-LSA names (section 16.1)
abbrev pub left_of_lsa : List Link → failure.AreaFailure → Advertisement → Advertisement
left_of_lsa inner f (router_lsa router links) = router_lsa router (kept_links inner f router links)
left_of_lsa inner f (network_lsa n router mask attached) = network_lsa n router mask attached

-- the LSAs of the area after the failure
unfoldable pub without : failure.AreaFailure → List Advertisement → List Advertisement
without f adverts = map (left_of_lsa (inner_of f adverts) f) adverts

-- after several failures, one after the other
abbrev pub without_all : List failure.AreaFailure → List Advertisement → List Advertisement
without_all failures adverts = fold (λ left f. without f left) adverts failures

-- ---- its bytes

-- the links that a router keeps after several failures, one after the other
abbrev pub kept_after
    : List Advertisement → List failure.AreaFailure → RouterId → List Link → List Link
kept_after adverts [] router links = links
kept_after adverts (f ∷ more) router links =
    kept_after (without f adverts) more router (kept_links (inner_of f adverts) f router links)

-- an LSA before and after, if each router keeps these of its links: a network-LSA, and a router-LSA
-- that keeps all its links, stay the same byte for byte; any other router-LSA is rebuilt with the
-- links that it keeps, with its number and age 0 (section 12.4.1)
abbrev pub IsLeftBy : (RouterId → List Link → List Link) → List ℕ → List ℕ → Type 0
IsLeftBy keep before after =
    let router = (key_of before).router in
    let kept = keep router (links_of before) in
    ((IsNetworkLsa before ⊎ (kept ≡ links_of before)) × (after ≡ before))
    ⊎ (IsRouterLsa before × (kept ≢ links_of before)
    × IsMade (router_value router (header_of before).number kept) after)

-- an LSA of the area before and after failures
abbrev pub IsLeftLsa
    : List Advertisement → List failure.AreaFailure → List ℕ → List ℕ → Type 0
IsLeftLsa adverts failures before after = IsLeftBy (kept_after adverts failures) before after

-- ---- what cannot be rebuilt

-- more links than fit into the largest router-LSA that is made (appendix A.4.2)
abbrev pub IsLarge : Advertisement → Type 0
IsLarge (router_lsa router links) = 1361 < length links
IsLarge (network_lsa n router mask attached) = ⊥

-- some LSA of the listing is too large
abbrev pub HasLarge : List Advertisement → Type 0
HasLarge adverts = (advert : Advertisement) × Contains adverts advert × IsLarge advert

-- after the failure it is rebuilt, and would be too large
abbrev pub IsLeftLarge : List Link → failure.AreaFailure → Advertisement → Type 0
IsLeftLarge inner f (router_lsa router links) =
    (kept_links inner f router links ≢ links) × (1361 < length (kept_links inner f router links))
IsLeftLarge inner f (network_lsa n router mask attached) = ⊥

-- some LSA of the listing would be too large after the failure, which takes so much
abbrev pub HasLeftLargeBy : List Link → failure.AreaFailure → List Advertisement → Type 0
HasLeftLargeBy inner f adverts =
    (advert : Advertisement) × Contains adverts advert × IsLeftLarge inner f advert

-- some LSA of the listing would be too large after the failure
abbrev pub HasLeftLarge : failure.AreaFailure → List Advertisement → Type 0
HasLeftLarge f adverts = HasLeftLargeBy (inner_of f adverts) f adverts
