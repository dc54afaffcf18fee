-- The items of a graph: what of a listing its edges depend on, one after the other.
use Rattle.std.specs.Prelude.{◌++◌, List, [], ◌∷◌, map, filter}
use Rattle.ospf_base.specs.declared.ids.RouterId.{RouterId}
use Rattle.ospf_lsa.specs.declared.link.Link.{Link}
use Rattle.ospf_graph.specs.Advertisements.{Advertisement, router_lsa, network_lsa}
use Rattle.ospf_graph.specs.SameGraph.{is_graph_kind}
use Rattle.ospf_graph.specs.declared.edges.items.GraphItem.{GraphItem}
use Rattle.ospf_graph.specs.declared.edges.items.GraphItem.TheVariants as item

-- the links of types 1 and 2
abbrev pub link_items : List Link → List GraphItem
link_items links = map (λ l. item.Link l) (filter (λ l. is_graph_kind l.kind) links)

-- an item for each attached router
abbrev pub attached_items : List RouterId → List GraphItem
attached_items routers = map (λ r. item.Attached r) routers

-- an LSA's key and, of a network, its mask; then its links or attached routers
abbrev pub items_of : Advertisement → List GraphItem
items_of (router_lsa r links) = item.Router r ∷ link_items links
items_of (network_lsa n r mask attached) = item.Network n r mask ∷ attached_items attached

-- the items of all LSAs, in their order
abbrev pub items_of_all : List Advertisement → List GraphItem
items_of_all [] = []
items_of_all (x ∷ rest) = items_of x ++ items_of_all rest

-- ---- reading them back

-- the links that the items begin with
abbrev pub links_at : List GraphItem → List Link
links_at (item.Link l ∷ rest) = l ∷ links_at rest
links_at _ = []

-- the attached routers that the items begin with
abbrev pub attached_at : List GraphItem → List RouterId
attached_at (item.Attached r ∷ rest) = r ∷ attached_at rest
attached_at _ = []

-- the LSAs that the items describe, without their links of types 3 and 4
abbrev pub graph_in : List GraphItem → List Advertisement
graph_in [] = []
graph_in (item.Router r ∷ rest) = router_lsa r (links_at rest) ∷ graph_in rest
graph_in (item.Network n r mask ∷ rest) = network_lsa n r mask (attached_at rest) ∷ graph_in rest
graph_in (item.Link _ ∷ rest) = graph_in rest
graph_in (item.Attached _ ∷ rest) = graph_in rest
