-- Walks through a world, from router to router.
use Rattle.std.specs.Prelude.{◌≡◌, ◌%◌, ℕ, false, List, None, Some, Result, Ok, Err, length, slice_get}
use Rattle.ospf_base.specs.declared.ids.RouterId.{RouterId}
use Rattle.ospf_graph.specs.Advertisements.{Advertisement}
use Rattle.ospf_graph.specs.Walk.{IsBest, IsLinkCost, IsNext}
use Rattle.ospf_graph.specs.declared.hop.NextHop.{NextHop}
use Rattle.ospf_graph.specs.declared.hop.NextHop.TheVariants as hops
use Rattle.ospf_graph.specs.declared.route.Route.{Route}
use Rattle.ospf_world.specs.Walks.{HasNoRoute, WorldWalk, adverts}
use Rattle.ospf_world.specs.World.{Member, Running, World, member, router_at}
use Rattle.ospf_base.specs.declared.event.event.WorldFault.{WorldFault}
use Rattle.ospf_base.specs.declared.event.event.WorldFault.TheVariants as fault
use Rattle.ospf_world.specs.declared.walk.WalkEnd.TheVariants as ends
use Rattle.ospf_world.specs.declared.walk.Leg.{Leg}
use Rattle.ospf_world.specs.declared.walk.Leg.TheVariants.{Ends, Goes}
use Rattle.ospf_world.specs.declared.walk.Walk.{Walk}

-- what a hop does, at the cost of its route: it arrives, or continues at its router, over its link
pub data LegsOver (A : List Advertisement) (at : RouterId) (hop : NextHop) (cost : ℕ) (leg : Leg)
    : Type 0 where
  Here : hop ≡ hops.Attached → leg ≡ Ends cost ends.Arrived → LegsOver A at hop cost leg
  There : (next : RouterId) (link : ℕ) → IsNext hop next → IsLinkCost A at hop link
      → leg ≡ Goes next link → LegsOver A at hop cost leg

-- what a walk does at one router
pub data IsLeg (w : World) (address choice : ℕ) (at : RouterId) (leg : Leg) : Type 0 where
  Stops : router_at w at ≡ None → leg ≡ Ends 0 ends.NotRunning → IsLeg w address choice at leg
  Strays : (x : Running) → router_at w at ≡ Some x → HasNoRoute x.table address
      → leg ≡ Ends 0 ends.NoRoute → IsLeg w address choice at leg
  Legs : (x : Running) (route : Route) (hop : NextHop) → router_at w at ≡ Some x
      → IsBest x.table address route → slice_get route.hops (choice % length route.hops) ≡ Some hop
      → LegsOver (adverts x) at hop route.cost leg → IsLeg w address choice at leg

-- the walk of these choices from a router of the world, or why there is none
pub data Walks (w : World) (from : RouterId) (address : ℕ) (choices : List ℕ)
    (result : Result Walk WorldFault) : Type 0 where
  NoRouter : member w from ≡ None → result ≡ Err fault.NoRouter
      → Walks w from address choices result
  NoMemory : (m : Member) → member w from ≡ Some m → result ≡ Err (fault.Memory false)
      → Walks w from address choices result
  Walked : (m : Member) (walk : Walk) → member w from ≡ Some m → result ≡ Ok walk
      → WorldWalk w address choices from walk.routers.items walk.cost walk.end
      → Walks w from address choices result
