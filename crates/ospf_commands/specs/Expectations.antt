-- What is expected of a router, and what is printed if the expectation is not met.
use Rattle.std.specs.Prelude.{◌≡◌, ◌⊎◌, ℕ, ◌==◌, ◌&&◌, Bool, true, false, not, if◌then◌else◌, List, [], ◌++◌, All, Any, Contains, IsTrue, Option, None, Some, codes, slice_get, unwrap_or}
use Rattle.std.specs.List.{list_any}
use Rattle.std.specs.Option.{MatchOption}
use Rattle.ospf_area.specs.State.{AreaValue, LinkValue}
use Rattle.ospf_base.specs.declared.ids.Addr.{Addr}
use Rattle.ospf_base.specs.declared.ids.RouterId.{RouterId}
use Rattle.ospf_base.specs.declared.prefix.Prefix.{Prefix}
use Rattle.ospf_graph.specs.declared.hop.NextHop.{NextHop}
use Rattle.ospf_graph.specs.declared.route.Route.{Route}
use Rattle.ospf_neighbour.specs.declared.iface.machine.Iface.{Iface}
use Rattle.ospf_journal.specs.Changes.{state_place}
use Rattle.ospf_neighbour.specs.Neighbour.{NeighbourValue}
use Rattle.ospf_neighbour.specs.declared.machine.NeighbourState.{NeighbourState}
use Rattle.ospf_neighbour.specs.declared.machine.NeighbourState.TheVariants as neighbour
use Rattle.ospf_router.specs.Routers.{RouterValue}
use Rattle.ospf_script.specs.Texts.{expected_text}
use Rattle.ospf_script.specs.Words.{Text}
use Rattle.ospf_script.specs.declared.expected.Expected.{Expected}
use Rattle.ospf_script.specs.declared.expected.Expected.TheVariants as expected
use Rattle.ospf_script.specs.declared.expected.Wanted.{Wanted}
use Rattle.ospf_script.specs.declared.expected.Wanted.TheVariants as wanted
use Rattle.ospf_views.specs.Shown.{view_lines}
use Rattle.ospf_views.specs.Waits.{interface_of}
use Rattle.ospf_script.specs.declared.command.View.TheVariants as view

-- ---- whether it is met

-- a neighbour has this Router ID
abbrev pub is_with_id : RouterId → NeighbourValue → Bool
is_with_id other n = n.router.0 == other.0

-- and is in this state (RFC 2328, section 10.1)
abbrev pub is_in_state : RouterId → NeighbourState → NeighbourValue → Bool
is_in_state other state n = is_with_id other n && state_place n.state == state_place state

-- a link has such a neighbour
abbrev pub has_in_state : RouterId → NeighbourState → LinkValue → Bool
has_in_state other state link = list_any (is_in_state other state) link.neighbours

-- some link of a running router has one
abbrev pub some_has_in_state : RouterId → NeighbourState → Option AreaValue → Bool
some_has_in_state other state None = false
some_has_in_state other state (Some s) = list_any (has_in_state other state) s.links

-- a link has this router as a neighbour, in any state
abbrev pub keeps_router : RouterId → LinkValue → Bool
keeps_router other link = list_any (is_with_id other) link.neighbours

-- some link of a running router has
abbrev pub is_kept_by : RouterId → Option AreaValue → Bool
is_kept_by other None = false
is_kept_by other (Some s) = list_any (keeps_router other) s.links

-- the state is Down
abbrev pub is_state_down : NeighbourState → Bool
is_state_down neighbour.Down = true
is_state_down _ = false

-- the other router is in this state; one that is Down is not stored (section 10.1)
abbrev pub is_at_state : RouterId → NeighbourState → Option AreaValue → Bool
is_at_state other state area =
    if is_state_down state then not (is_kept_by other area)
    else some_has_in_state other state area

-- a link has no neighbour
unfoldable pub IsLonely : LinkValue → Type 0
IsLonely link = link.neighbours ≡ []

-- the running router has a link with this number, and it has no neighbour
abbrev pub HasNoNeighbour : ℕ → Option AreaValue → Type 0
HasNoNeighbour link None = ⊥
HasNoNeighbour link (Some s) = MatchOption (slice_get s.links link) ⊥ IsLonely

-- the interface has this Designated Router, and this Backup, if one is given (section 9)
abbrev pub HasElected : Addr → Option Addr → Iface → Type 0
HasElected dr None i = i.dr ≡ dr
HasElected dr (Some backup) i = (i.dr ≡ dr) × (i.backup ≡ backup)

-- the running router has a link with this number, and its interface has them
abbrev pub HasElectedAt : ℕ → Addr → Option Addr → Option AreaValue → Type 0
HasElectedAt link dr backup None = ⊥
HasElectedAt link dr backup (Some s) =
    MatchOption (slice_get s.links link) ⊥ (λ l. HasElected dr backup l.iface)

-- a route to the prefix (section 11)
abbrev pub is_route_to : Prefix → Route → Bool
is_route_to prefix route =
    route.prefix.address.0 == prefix.address.0 && route.prefix.length == prefix.length

-- the hop is one of these
unfoldable pub IsAmong : List NextHop → NextHop → Type 0
IsAmong hops hop = Contains hops hop

-- each of these hops is one of the others
abbrev pub AreAmong : List NextHop → List NextHop → Type 0
AreAmong others hops = All (IsAmong others) hops

-- the hops are exactly those that are wanted; any hops will do if none is wanted
unfoldable pub HasHops : (wanted hops : List NextHop) → Type 0
HasHops wanted hops = (wanted ≡ []) ⊎ (AreAmong wanted hops × AreAmong hops wanted)

-- a route with this prefix, cost and hops
unfoldable pub IsRouteAt : Prefix → ℕ → List NextHop → Route → Type 0
IsRouteAt prefix cost hops route =
    IsTrue (is_route_to prefix route) × (route.cost ≡ cost) × HasHops hops route.hops

-- the other router is in this state; a link has no neighbour; a link has this Designated Router and
-- Backup; there is a route with this cost and these hops; there is no route
abbrev pub IsMet : Wanted → RouterValue → Type 0
IsMet (wanted.Neighbour other state) x = IsTrue (is_at_state other state x.area)
IsMet (wanted.NoNeighbour link) x = HasNoNeighbour link x.area
IsMet (wanted.Dr link dr backup) x = HasElectedAt link dr backup x.area
IsMet (wanted.Route prefix cost hops) x = Any (IsRouteAt prefix cost hops.items) x.table
IsMet (wanted.NoRoute prefix) x = IsTrue (not (list_any (is_route_to prefix) x.table))

-- ---- what is printed if it is not met

-- what the router has: the neighbours, the table, or the interface of the link
abbrev pub standing_lines : Wanted → RouterValue → Text
standing_lines (wanted.Neighbour other state) x = view_lines view.Neighbours x
standing_lines (wanted.NoNeighbour link) x = view_lines view.Neighbours x
standing_lines (wanted.Dr link dr backup) x = unwrap_or (interface_of x.area link) []
standing_lines (wanted.Route prefix cost hops) x = view_lines view.Table x
standing_lines (wanted.NoRoute prefix) x = view_lines view.Table x

-- the line of an expectation that is not met
abbrev pub unmet_line : Expected → Text
unmet_line e = codes "not met: " ++ expected_text e ++ codes "\n"

-- the line of what is wanted of a router
abbrev pub wanted_line : RouterId → Wanted → Text
wanted_line r wanted = unmet_line (expected.Router r wanted)

-- the report that it is not met, and what the router has
abbrev pub unmet_lines : RouterId → Wanted → RouterValue → Text
unmet_lines r wanted x = wanted_line r wanted ++ standing_lines wanted x
