-- What differs in the tables of routers between two areas.
use Rattle.std.specs.Prelude.{◌≡◌, ◌<◌, ◌⊎◌, ◌↔◌, ◌++◌, ◌^◌, ℕ, List, [], ◌∷◌, All, AllPairs, Contains, Option, None, Some, flat_map, length, map, string_bytes}
use Rattle.ospf_base.specs.declared.ids.RouterId.{RouterId}
use Rattle.ospf_graph.specs.Advertisements.{Advertisement, IsListed}
use Rattle.ospf_graph.specs.Routes.{IsTable}
use Rattle.ospf_graph.specs.declared.route.Route.{Route}
use Rattle.ospf_whatif.specs.declared.failure.AreaFailure.{AreaFailure}
use Rattle.ospf_whatif.specs.declared.failure.AreaFailure.TheVariants.{Router}
use Rattle.ospf_change.specs.Diff.Difference.{AreDifferences}
use Rattle.ospf_change.specs.Diff.Sums.{RouterDifferences, difference_sums_of, difference_sums_plus}
use Rattle.ospf_change.specs.Diff.Text.{difference_line}
use Rattle.ospf_change.specs.declared.diff.difference.RouteDifference.{RouteDifference}
use Rattle.ospf_change.specs.declared.diff.sights.Sights.{Sights}

-- what differs between the tables that a router has in the two areas
pub record IsRouterDifference (before after : List Advertisement) (sight : RouterDifferences)
    : Type 0 where
  pub old : List Route
  pub is_old : IsTable before sight.0 old
  pub new : List Route
  pub is_new : IsTable after sight.0 new
  pub differ : AreDifferences old new sight.1

-- the routers whose router-LSA is listed in either area, in the order of Router IDs
pub record AreAllRouters (before after : List Advertisement) (routers : List RouterId)
    : Type 0 where
  pub rising : AllPairs (λ r s. r.0 < s.0) routers
  pub whole : (r : RouterId) → Contains routers r ↔ (IsListed before r ⊎ IsListed after r)

-- the one router that is asked for, or all
abbrev pub AreRoots : List Advertisement → List Advertisement → Option RouterId → List RouterId
    → Type 0
AreRoots before after (Some root) routers = routers ≡ root ∷ []
AreRoots before after None routers = AreAllRouters before after routers

-- what differs at each of these routers, in their order
pub record AreRouterDifferences (before after : List Advertisement) (routers : List RouterId)
    (sights : List RouterDifferences) : Type 0 where
  pub routers_are : map (λ s. s.0) sights ≡ routers
  pub seen : All (IsRouterDifference before after) sights

-- a line for each route that differs
abbrev pub lines_of_router : RouterDifferences → List ℕ
lines_of_router sight = flat_map (difference_line sight.0) sight.1

-- the lines of what differs at these routers, and their sums
pub record AreSeen (before after : List Advertisement) (routers : List RouterId) (seen : Sights)
    : Type 0 where
  pub sights : List RouterDifferences
  pub are : AreRouterDifferences before after routers sights
  pub lines_are : string_bytes seen.lines ≡ flat_map lines_of_router sights
  pub sums_are : seen.sums ≡ difference_sums_of sights

-- ---- on the way

-- one router more is seen
pub record SeesOneMore (before after : List Advertisement) (router : RouterId) (old new : Sights)
    : Type 0 where
  pub found : List RouteDifference
  pub few : length found < 2 ^ 64
  pub is : IsRouterDifference before after (router, found)
  pub lines_are : string_bytes new.lines ≡ string_bytes old.lines ++ lines_of_router (router, found)
  pub sums_are : new.sums ≡ difference_sums_plus old.sums found

-- the routers among the elements of two areas, in the order of Router IDs
pub record AreRoutersAmong (before after : List AreaFailure) (routers : List RouterId)
    : Type 0 where
  pub rising : AllPairs (λ r s. r.0 < s.0) routers
  pub whole : (r : RouterId)
      → Contains routers r ↔ (Contains before (Router r) ⊎ Contains after (Router r))

-- the one router that is asked for, or those
abbrev pub AreRootsAmong : List AreaFailure → List AreaFailure → Option RouterId → List RouterId
    → Type 0
AreRootsAmong before after (Some root) routers = routers ≡ root ∷ []
AreRootsAmong before after None routers = AreRoutersAmong before after routers
