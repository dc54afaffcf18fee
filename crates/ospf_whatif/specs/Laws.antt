-- Laws of failures: what they do to every area.
use Rattle.std.specs.Prelude.{◌≡◌, ◌+◌, ◌<◌, ◌≤◌, ◌⊎◌, ℕ, List, Contains, true}
use Rattle.ospf_base.specs.declared.ids.RouterId.{RouterId}
use Rattle.ospf_base.specs.Prefixes.{IsPrefixOf}
use Rattle.ospf_base.specs.declared.prefix.Prefix.{Prefix}
use Rattle.ospf_graph.specs.EdgeLists.Listed.{advertisements_of}
use Rattle.ospf_graph.specs.Advertisements.{Advertisement, router_lsa}
use Rattle.ospf_graph.specs.Graph.{IsEdge}
use Rattle.ospf_graph.specs.Routes.{IsEnd, IsTable}
use Rattle.ospf_graph.specs.Tree.{IsTree}
use Rattle.ospf_graph.specs.declared.graph.Edge.{Edge}
use Rattle.ospf_graph.specs.declared.paths.Settled.{Settled}
use Rattle.ospf_graph.specs.declared.paths.VertexStart.{VertexStart}
use Rattle.ospf_graph.specs.Search.{AtIn, StartsIn}
use Rattle.ospf_graph.specs.declared.graph.Vertex.{Vertex}
use Rattle.ospf_graph.specs.declared.graph.Vertex.TheVariants as vertex
use Rattle.ospf_graph.specs.declared.route.Route.{Route}
use Rattle.ospf_lsa.specs.Listing.{IsListing}
use Rattle.ospf_lsa.specs.declared.link.Link.{Link as LsaLink}
use Rattle.ospf_lsa.specs.declared.link.LinkKind.TheVariants as kind
use Rattle.ospf_whatif.specs.Failure.{takes_in, without}
use Rattle.ospf_whatif.specs.Name.{area_failure_text}
use Rattle.ospf_whatif.specs.Single.{IsFailure}
use Rattle.ospf_whatif.specs.Stubs.{IsAnyFailure, is_subnet_of}
use Rattle.ospf_whatif.specs.declared.failure.AreaFailure.{AreaFailure}
use Rattle.ospf_whatif.specs.declared.failure.AreaFailure.TheVariants.{Link, Stub}

-- after a failure no prefix is reached that was not reached before, and none at a lower cost
abbrev pub FailuresTakeAway : Type 0
FailuresTakeAway =
    (failure : AreaFailure) (adverts : List Advertisement) (root : RouterId)
    (before after : List Route) →
    IsTable adverts root before → IsTable (without failure adverts) root after → (route : Route)
    → Contains after route →
    (old : Route) × Contains before old × (old.prefix ≡ route.prefix) × (old.cost ≤ route.cost)

-- no edge comes from a failure
abbrev pub FailuresMakeNoEdge : Type 0
FailuresMakeNoEdge =
    (failure : AreaFailure) (adverts : List Advertisement) (e : Edge)
    → IsEdge (without failure adverts) e → IsEdge adverts e

-- no least path goes over the edge
abbrev pub IsOffLeastPaths : (Vertex → ℕ → Type 0) → Edge → Type 0
IsOffLeastPaths At e = (d : ℕ) → At e.from d → At e.to (d + e.cost) → ⊥

-- a failure that takes only edges which no least path from the root goes over leaves the tree of
-- shortest paths as it is: no search is needed
abbrev pub TreesStay : Type 0
TreesStay =
    (failure : AreaFailure) (adverts : List Advertisement) (root : Vertex) (settled : List Settled)
    (starts : List VertexStart) →
    IsTree (IsEdge adverts) root (AtIn settled) (StartsIn starts) →
    ((e : Edge) → IsEdge adverts e
    → IsEdge (without failure adverts) e ⊎ IsOffLeastPaths (AtIn settled) e) →
    IsTree (IsEdge (without failure adverts)) root (AtIn settled) (StartsIn starts)

-- no two failures of an area have one name
abbrev pub FailureNamesTellApart : Type 0
FailureNamesTellApart =
    (lsas : List (List ℕ)) (f g : AreaFailure) → IsListing lsas
    → IsFailure (advertisements_of lsas) f → IsFailure (advertisements_of lsas) g
    → area_failure_text f ≡ area_failure_text g → f ≡ g

-- a link of a router fails with one subnet alone: no two failures of links between the same two
-- routers take it, also where one subnet lies in the other
abbrev pub LinksFailApart : Type 0
LinksFailApart =
    (adverts : List Advertisement) (a b router : RouterId) (s t : Prefix) (l : LsaLink)
    → IsFailure adverts (Link a b s) → IsFailure adverts (Link a b t)
    → takes_in adverts (Link a b s) router l ≡ true
    → takes_in adverts (Link a b t) router l ≡ true → s ≡ t

-- no two of all that may fail in an area have one name, interfaces to stub networks too
abbrev pub AllNamesTellApart : Type 0
AllNamesTellApart =
    (lsas : List (List ℕ)) (f g : AreaFailure) → IsListing lsas
    → IsAnyFailure (advertisements_of lsas) f → IsAnyFailure (advertisements_of lsas) g
    → area_failure_text f ≡ area_failure_text g → f ≡ g

-- the failure of an interface to a stub network takes the prefix from its router, and nothing else:
-- all edges stay, and all other ends of prefixes
pub record TakesStubAlone (adverts : List Advertisement) (router : RouterId) (prefix : Prefix)
    : Type 0 where
  pub edges_stay : (e : Edge) → IsEdge adverts e → IsEdge (without (Stub router prefix) adverts) e
  pub goes : (cost : ℕ)
      → IsEnd (without (Stub router prefix) adverts) prefix (vertex.Router router) cost → ⊥
  pub others_stay : (p : Prefix) (v : Vertex) (cost : ℕ) → IsEnd adverts p v cost
      → ((p ≡ prefix) × (v ≡ vertex.Router router) → ⊥)
      → IsEnd (without (Stub router prefix) adverts) p v cost

-- so it is of each interface of each area
abbrev pub StubsFailAlone : Type 0
StubsFailAlone =
    (adverts : List Advertisement) (router : RouterId) (prefix : Prefix)
    → TakesStubAlone adverts router prefix

-- each prefix of less than 32 bits that a router advertises by a type 3 link is that of an
-- interface which may fail, or the subnet of one of the router's links to others
abbrev pub NoStubIsForgotten : Type 0
NoStubIsForgotten =
    (adverts : List Advertisement) (router : RouterId) (links : List LsaLink) (link : LsaLink)
    (prefix : Prefix) →
    Contains adverts (router_lsa router links) → Contains links link → link.kind ≡ kind.Stub
    → IsPrefixOf link.id link.link_data prefix → prefix.length < 32 →
    IsAnyFailure adverts (Stub router prefix)
    ⊎ ((other : LsaLink) × Contains links other × (is_subnet_of links prefix other ≡ true))
