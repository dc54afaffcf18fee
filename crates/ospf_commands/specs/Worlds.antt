-- Worlds, in the terms of a script.
use Rattle.std.specs.Prelude.{◌≡◌, ℕ, List, Some, Result}
use Rattle.ospf_base.specs.declared.ids.RouterId.{RouterId}
use Rattle.ospf_world.specs.World.{Member, member, of_member, unless_stopped}
use Rattle.ospf_base.specs.declared.event.event.WorldEvent.{WorldEvent}
use Rattle.ospf_base.specs.declared.event.event.WorldFault.{WorldFault}
use Rattle.ospf_router.specs.Routers.{RouterValue}
use Rattle.ospf_world.specs.Does.{Does}
use Rattle.ospf_world.specs.Random as random
use Rattle.ospf_world.specs.Legs.{Walks}
use Rattle.ospf_world.specs.Worlds.{IsLent, world_of}
use Rattle.ospf_world.specs.declared.walk.Walk.{Walk}
use Rattle.rand_pcg.specs.Lcg.{increment_of, started}
use Rattle.rand_pcg.specs.Pcg.{multiplier_64}
pub use Rattle.ospf_commands.specs.Deliveries.Batches.{IsBatch}
pub use Rattle.ospf_world.specs.Rounds.{IsRoundOf, most_offers}
pub use Rattle.ospf_world.specs.Worlds.{SlotValue, WorldValue}

-- what an event does: it happens to the router that it names, exactly
abbrev pub EventDoes : WorldEvent → WorldValue → Result (Unit {0}) WorldFault → WorldValue → Type 0
EventDoes = Does

-- this many random events happen, drawn with the generator of this number
abbrev pub IsRandomRun : ℕ → ℕ → WorldValue → Result (Unit {0}) WorldFault → WorldValue → Type 0
IsRandomRun number count w answer w' =
    random.IsRandom count (started 64 multiplier_64 number (increment_of 64 0)) w answer w'

-- the walk from a router to an address with these choices, or why there is none
abbrev pub IsWalkFrom : WorldValue → RouterId → ℕ → List ℕ → Result Walk WorldFault → Type 0
IsWalkFrom w from address choices result = Walks (world_of w) from address choices result

-- a running router, with its area and its table as the world has them
abbrev pub LendsRouter : WorldValue → RouterId → RouterValue → Type 0
LendsRouter w r x = (m : Member) × (member (world_of w) r ≡ Some m) × IsLent m.running x

-- why no router with this Router ID can be asked: there is none, or it does not run
abbrev pub IsNotLent : WorldValue → RouterId → WorldFault → Type 0
IsNotLent w r fault = of_member unless_stopped (member (world_of w) r) ≡ Some fault
