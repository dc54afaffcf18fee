-- Laws of ways.
use Rattle.std.specs.Prelude.{◌≡◌, ◌⊎◌, ◌++◌, ℕ, List, length}
use Rattle.ospf_base.specs.declared.ids.RouterId.{RouterId}
use Rattle.ospf_graph.specs.EdgeLists.Listed.{advertisements_of}
use Rattle.ospf_graph.specs.Advertisements.{Advertisement}
use Rattle.ospf_graph.specs.Routes.{IsTable}
use Rattle.ospf_graph.specs.Walk.{HaveTables, IsBest}
use Rattle.ospf_graph.specs.declared.route.Route.{Route}
use Rattle.ospf_lsa.specs.Listing.{IsListing}
use Rattle.ospf_inspect.specs.Path.{HasNoRouteFor, SaysPath, arrived_line, no_route_line}

-- a text that ends with the line by which the prefix of a router's best route for the address is
-- reached, at the cost of this route
pub record EndsOnRoute (adverts : List Advertisement) (address : ℕ) (from : RouterId)
    (text : List ℕ) : Type 0 where
  pub table : List Route
  pub is_table : IsTable adverts from table
  pub route : Route
  pub best : IsBest table address route
  pub legs : List ℕ
  pub is : text ≡ legs ++ arrived_line route.prefix route.cost

-- the law: if each router has its table of a listing, the text about the path from a router says
-- that this router has no route, or ends at the prefix of its route, at the cost of that route
abbrev pub WaysArrive : Type 0
WaysArrive =
    (lsas : List (List ℕ)) (tables : RouterId → List Route) (from : RouterId) (address : ℕ)
    (choices text : List ℕ) → IsListing lsas → HaveTables (advertisements_of lsas) tables
    → SaysPath (advertisements_of lsas) from address choices (length lsas) text
    → (HasNoRouteFor (advertisements_of lsas) address from × (text ≡ no_route_line from))
    ⊎ EndsOnRoute (advertisements_of lsas) address from text
