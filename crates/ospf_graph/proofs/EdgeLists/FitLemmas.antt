-- What the search needs of a listing: its numbers are those of their fields, and its links cost something.
use Rattle.std.proofs.Common.{◌≡◌, ◌^◌, ◌<◌, ◌⊎◌, ℕ, List, refl, sym, ap, subst, inl, inr, arith}
use Rattle.std.specs.List.{Contains}
use Rattle.std.proofs.lemmas.List.Elements.{All-contains, All-from_recursion}
use Rattle.ospf_base.specs.Bytes.{number_at}
use Rattle.ospf_base.specs.declared.ids.RouterId.{RouterId}
use Rattle.ospf_base.specs.declared.ids.LsaKey.{LsaKey}
use Rattle.ospf_lsa.specs.declared.link.Link.{Link}
use Rattle.ospf_lsa.specs.declared.link.LinkKind.{LinkKind}
use Rattle.ospf_lsa.specs.declared.fault.LsaFault.TheVariants as fault
use Rattle.ospf_lsa.specs.Link.{LinkEntry, LinkFits, EntryFits}
use Rattle.ospf_lsa.specs.Lsa.{IsLsa, IsRouterLsa, HasCost, links_of}
use Rattle.ospf_lsa.specs.Listing.{IsListing}
use Rattle.ospf_lsa.proofs.LinkLemmas.{links_of_entries}
use Rattle.ospf_lsa.proofs.ListingLemmas.{listed_in}
use Rattle.ospf_graph.specs.declared.graph.Edge.{Edge}
use Rattle.ospf_graph.specs.declared.graph.Vertex.{Vertex}
use Rattle.ospf_graph.specs.declared.graph.Vertex.TheVariants.{Router, Network}
use Rattle.ospf_graph.specs.Advertisements.{IsListed, HasLink, network_lsa}
use Rattle.ospf_graph.specs.Graph.{IsEdge, IsEdgeBetween}
use Rattle.ospf_graph.specs.Search.{AreFitEdges, vertex_id}
use Rattle.ospf_graph.specs.Walk.{HasPositiveMetrics}
use Rattle.ospf_graph.proofs.GraphLemmas.{rising_edges}
use Rattle.ospf_graph.proofs.ListLemmas.{member_of_map}
use Rattle.ospf_graph.specs.EdgeLists.Listed.{advertisements_of}
use Rattle.ospf_graph.specs.EdgeLists.Given.{IsEdgesOf}
use Rattle.ospf_graph.proofs.EdgeLists.ListedLemmas.{router_in, network_in}

-- the numbers of each link of a router-LSA fit their fields
links_fit : (lsa : List ℕ) → IsLsa lsa → (router : IsRouterLsa lsa) → (link : Link) → Contains (links_of lsa) link → LinkFits link
links_fit lsa is router link m =
    let are = ((is fault.Links).0 router).1 in
    let as_entries = links_of_entries _ _ are in
    let entry = member_of_map (λ (e : LinkEntry). e.link) are.entries link (subst (λ ls. Contains ls link) as_entries m) in
    let fits : EntryFits entry.0 = All-contains EntryFits are.entries entry.0 (All-from_recursion EntryFits are.entries are.fit) entry.1 in
    subst (λ l. LinkFits l) entry.2 fits.link

module _ (lsas : List (List ℕ)) (is : IsListing lsas) where
  link_fits : (r : RouterId) (kind : LinkKind) (id link_data metric : ℕ) → HasLink (advertisements_of lsas) r kind id link_data metric
      → LinkFits (record { id = id; link_data = link_data; kind = kind; metric = metric })
  link_fits r kind id link_data metric h =
      let x = router_in lsas is r h.links h.listed in
      let link : Link = record { id = id; link_data = link_data; kind = kind; metric = metric } in
      links_fit x.0 (listed_in lsas is x.0 x.1.listed).0 x.1.is link (subst (λ ls. Contains ls link) (sym x.1.links_are) h.link_in)

  pub router_fits : (r : RouterId) → IsListed (advertisements_of lsas) r → r.0 < 2 ^ 32
  router_fits r listed =
      let x = router_in lsas is r listed.0 listed.1 in
      let names : number_at 8 4 x.0 ≡ r.0 = ap (λ (k : LsaKey). k.router.0) x.1.key in
      rw names at (listed_in lsas is x.0 x.1.listed).1.router

  -- the Link State ID of a network-LSA fits its field
  pub network_fits : (n : ℕ) (r : RouterId) (mask : ℕ) (attached : List RouterId) → Contains (advertisements_of lsas) (network_lsa n r mask attached) → n < 2 ^ 32
  network_fits n r mask attached listed =
      let x = network_in lsas is n r mask attached listed in
      let fits : number_at 4 4 x.0 < 2 ^ 32 = (listed_in lsas is x.0 x.1.listed).1.id in
      rw x.1.id at fits

  link_costs : (r : RouterId) (kind : LinkKind) (id link_data metric : ℕ) → (kind ≡ LinkKind.PointToPoint) ⊎ (kind ≡ LinkKind.Transit)
      → HasLink (advertisements_of lsas) r kind id link_data metric → 0 < metric
  link_costs r kind id link_data metric counts h =
      let x = router_in lsas is r h.links h.listed in
      let link : Link = record { id = id; link_data = link_data; kind = kind; metric = metric } in
      let costs = (listed_in lsas is x.0 x.1.listed).0 fault.ZeroMetric x.1.is in
      All-contains HasCost (links_of x.0) link costs (subst (λ ls. Contains ls link) (sym x.1.links_are) h.link_in) counts

  pub positive : HasPositiveMetrics (advertisements_of lsas)
  positive r id link_data metric = (
    link_costs r LinkKind.PointToPoint id link_data metric (inl refl),
    link_costs r LinkKind.Transit id link_data metric (inr refl),
  )

  edge_fits : (from to : Vertex) (cost link_data : ℕ) → IsEdgeBetween (advertisements_of lsas) from to cost link_data → (cost < 2 ^ 16) × (vertex_id to < 2 ^ 32)
  edge_fits (Router a) (Router b) cost link_data e = let f = link_fits a LinkKind.PointToPoint b.0 link_data cost e.0 in (f.metric, f.id)
  edge_fits (Router a) (Network n) cost link_data e = let f = link_fits a LinkKind.Transit n link_data cost e.0 in (f.metric, f.id)
  edge_fits (Network n) (Router b) cost link_data e = let free : cost ≡ 0 = e.0 in (omega arith, router_fits b (e.1.links, e.1.listed))
  edge_fits (Network n) (Network m) cost link_data e = absurd e

  -- edges of the listing, all or some of them
  pub some_fit : (edges : List Edge) → ((e : Edge) → Contains edges e → IsEdge (advertisements_of lsas) e) → AreFitEdges edges
  some_fit edges are =
      record {
        rising = λ e d m. rising_edges (advertisements_of lsas) positive e d (are e m);
        cost_fits = λ e m. (edge_fits e.from e.to e.cost e.link_data (are e m)).0;
        id_fits = λ e m. (edge_fits e.from e.to e.cost e.link_data (are e m)).1;
      }

  pub edges_fit : (edges : List Edge) → IsEdgesOf (advertisements_of lsas) edges → AreFitEdges edges
  edges_fit edges are = some_fit edges (λ e. (are e).0)
