-- The addresses of routers on transit networks, by the pair of a router and a network.
use Rattle.std.specs.Prelude.{◌≡◌, ◌==◌, ◌<◌, ◌^◌, ◌++◌, ℕ, List, [], ◌∷◌, Option, if◌then◌else◌}
use Rattle.std.specs.Option.{option_or}
use Rattle.ospf_base.specs.declared.ids.RouterId.{RouterId}
use Rattle.ospf_lsa.specs.declared.link.Link.{Link}
use Rattle.ospf_graph.specs.Advertisements.{Advertisement, router_lsa, network_lsa, transit_address}
use Rattle.ospf_graph.specs.Pairs.{pair_code}

-- all links of a router, of one LSA after the other
abbrev pub links_by : RouterId → List Advertisement → List Link
links_by r [] = []
links_by r (router_lsa q links ∷ rest) = (if q.0 == r.0 then links else []) ++ links_by r rest
links_by r (network_lsa _ _ _ _ ∷ rest) = links_by r rest

-- the address of r on the network n, by the first of these links of a router
abbrev pub own_address_by : RouterId → List Link → RouterId → ℕ → Option ℕ
own_address_by router links r n = transit_address n (if router.0 == r.0 then links else [])

-- the first addresses by these links of the router are there, where there was none
abbrev pub AddsAddresses : RouterId → List Link → (ℕ → Option ℕ) → (ℕ → Option ℕ) → Type 0
AddsAddresses router links old new =
    (r : RouterId) (n : ℕ) → n < 2 ^ 32
    → new (pair_code r.0 n) ≡ option_or (old (pair_code r.0 n)) (own_address_by router links r n)

-- those of an LSA
abbrev pub AddsTold : Advertisement → (ℕ → Option ℕ) → (ℕ → Option ℕ) → Type 0
AddsTold advert old new =
    (r : RouterId) (n : ℕ) → n < 2 ^ 32
    → new (pair_code r.0 n)
    ≡ option_or (old (pair_code r.0 n)) (transit_address n (links_by r (advert ∷ [])))
