-- The routes of a database (RFC 2328, sections 14 and 16.1).
use Rattle.std.specs.Prelude.{ℕ, List}
use Rattle.ospf_base.specs.declared.ids.RouterId.{RouterId}
use Rattle.ospf_graph.specs.EdgeLists.Listed.{advertisements_of}
use Rattle.ospf_graph.specs.Routes.{IsTable}
use Rattle.ospf_graph.specs.declared.route.Route.{Route}
use Rattle.ospf_lsa.specs.Listing.{IsListing}
use Rattle.ospf_lsdb.specs.Database.{Held, IsDatabase, listed}

-- the database is listed in order, and the routes are those from this router over what it lists
pub record AreRoutes (router : RouterId) (db : List Held) (table : List Route) : Type 0 where
  pub database : IsDatabase db
  pub listing : IsListing (listed db)
  pub routes : IsTable (advertisements_of (listed db)) router table

-- stored routes: of which router, which routes, and the LSAs that they were made from
pub record RoutesValue : Type 0 where
  pub router : RouterId
  pub table : List Route
  pub listing : List (List ℕ)
