-- A router: its part of the area, and its routing table (RFC 2328, sections 5 and 11).
use Rattle.std.specs.Prelude.{◌≡◌, ℕ, ℤ, Bool, false, List, [], Option, None, Some, length, slice_get}
use Rattle.ospf_area.specs.State.{AreaValue, neighbour}
use Rattle.ospf_base.specs.declared.ids.Instance.{Instance}
use Rattle.ospf_base.specs.declared.ids.RouterId.{RouterId}
use Rattle.ospf_graph.specs.declared.route.Route.{Route}
use Rattle.ospf_router.specs.AreaStep.Words.{IsSoundState}
use Rattle.ospf_lsdb.specs.Database.{listed}
use Rattle.ospf_neighbour.specs.Neighbour.{NeighbourValue}
use Rattle.ospf_router.specs.Listings.{ListsAs}
use Rattle.ospf_router.specs.Routes.{AreRoutes, RoutesValue}
use Rattle.ospf_router.specs.AreaStep.Fit.{IsFitRouter}
use Rattle.ospf_neighbour.specs.Lists.{is_listed}

-- a router: how many links it has, the floor of its start, its routing table, and its part of the
-- area, which is `None` if the router has stopped
pub record RouterValue : Type 0 where
  pub links : ℕ
  pub floor : ℤ
  pub table : List Route
  pub area : Option AreaValue

-- what each step needs, and keeps: it can be taken, and the router can
-- account to others for what it does
pub record IsKept (s : AreaValue) : Type 0 where
  pub fit : IsFitRouter s
  pub sound : IsSoundState s

-- a router that runs; its routes were made of LSAs that its database lists, at whatever ages
pub record Runs (links : ℕ) (routes : RoutesValue) (s : AreaValue) : Type 0 where
  pub kept : IsKept s
  pub has_routes : AreRoutes s.router s.database routes.table
  pub listing : ListsAs s.database routes.listing
  pub as_many : length s.links ≡ links

-- what a router is: it runs, or it has stopped, and routes nothing
abbrev pub IsRouter : ℕ → RoutesValue → Option AreaValue → Type 0
IsRouter links routes None = routes.table ≡ []
IsRouter links routes (Some s) = Runs links routes s × (routes.router ≡ s.router)

-- ---- what can be read of it

-- what it lists (14)
abbrev pub listing_of : Option AreaValue → List (List ℕ)
listing_of None = []
listing_of (Some s) = listed s.database

-- the neighbours of a link, in rising Router ID
abbrev pub neighbours_on : Option AreaValue → ℕ → List NeighbourValue
neighbours_on None l = []
neighbours_on (Some s) l = elim (slice_get s.links l) [ None ↦ [] | Some link ↦ link.neighbours ]

-- an instance is on the retransmission list of a neighbour that may not exist (13.6)
abbrev pub awaits_in : Option AreaValue → ℕ → RouterId → Instance → Bool
awaits_in None link q i = false
awaits_in (Some s) link q i = elim (neighbour s link q) [
  | None ↦ false
  | Some n ↦ is_listed i n.retransmission
]

-- the greatest number of a key of its own that was issued or installed since the start, and
-- not below the floor of the start
abbrev pub greatest_in : ℤ → Option AreaValue → ℤ
greatest_in floor None = floor
greatest_in floor (Some s) = s.max_seq

-- ---- one that stops

-- it has its links and its floor, and nothing else
abbrev pub stopped : RouterValue → RouterValue
stopped r = record r { table = []; area = None }
