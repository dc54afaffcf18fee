-- Worlds in code: a slot for each router, and the logs.
use Rattle.std.specs.Prelude.{◌≡◌, ◌==◌, ◌+◌, ◌++◌, ℕ, Bool, List, [], ◌∷◌, Option, None, Some, Result, Ok, Err, false, cond, length, map}
use Rattle.std.specs.Borrow.{Bor}
use Rattle.std.specs.BTreeMap as tree
use Rattle.std.specs.Ordering.{nat_cmp}
use Rattle.ospf_base.specs.declared.ids.RouterId.{RouterId}
use Rattle.ospf_config.specs.Configs.{ShareRouter}
use Rattle.ospf_config.specs.declared.config.Config.{Config}
use Rattle.ospf_world.specs.World.{Member, World, member}
use Rattle.ospf_base.specs.declared.event.event.WorldFault.{WorldFault}
use Rattle.ospf_base.specs.declared.event.event.WorldFault.TheVariants as fault
use Rattle.ospf_world.specs.Logs.{LogsValue}
use Rattle.ospf_world.specs.Slots.{member_of}
use Rattle.ospf_world.specs.declared.ticks.Ticked.{Ticked}
pub use Rattle.ospf_router.specs.Routers.{RouterValue, listing_of}
pub use Rattle.ospf_world.specs.Slots.{IsLent, SlotValue}

-- the routers in the order of their configurations, the logs, the ticks that they took, and how
-- many datagrams the rounds have offered
pub record WorldValue : Type 0 where
  pub slots : List SlotValue
  pub logs : LogsValue
  pub ticks : List Ticked
  pub offered : ℕ

-- what the laws of worlds are about
abbrev pub world_of : WorldValue → World
world_of w =
    record {
      routers = map member_of w.slots;
      datagrams = w.logs.datagrams;
      issued = w.logs.issued;
      held = w.logs.held;
    }

-- how the routers are configured
abbrev pub config_of : SlotValue → Config
config_of s = s.config

-- the configurations of all routers
abbrev pub configs_of : WorldValue → List Config
configs_of w = map config_of w.slots

-- what an event does not change: the configurations, and what the rounds have offered
pub record SameSettings (before after : WorldValue) : Type 0 where
  pub configs : configs_of after ≡ configs_of before
  pub offered : after.offered ≡ before.offered

-- ---- places

-- the slot is that of this router
abbrev pub is_slot_of : ℕ → SlotValue → Bool
is_slot_of r s = s.config.router_id.0 == r

-- where the router of a Router ID is
abbrev pub place_from : ℕ → ℕ → List SlotValue → Option ℕ
place_from r k [] = None
place_from r k (s ∷ slots) = cond (is_slot_of r s) (Some k) (place_from r (k + 1) slots)

-- the place of a router's slot
abbrev pub place_of : List SlotValue → ℕ → Option ℕ
place_of slots r = place_from r 0 slots

-- the index of the routers
abbrev pub place_in : tree.BTreeMap ℕ ℕ → ℕ → Option ℕ
place_in places r = tree.get nat_cmp places r

-- the map has the places of the slots
abbrev pub AreSlotPlaces : tree.BTreeMap ℕ ℕ → List SlotValue → Type 0
AreSlotPlaces places slots = (r : ℕ) → place_in places r ≡ place_of slots r

-- ---- new worlds

-- a router that does not run
abbrev pub stopped_slot : Config → SlotValue
stopped_slot config = record { config = config; running = None; drops = [] }

-- the logs of a world in which nothing happened yet
abbrev pub no_logs : LogsValue
no_logs = record { datagrams = []; issued = []; held = [] }

-- a world of these configurations, in which nothing runs and nothing has happened
abbrev pub new_world : List Config → WorldValue
new_world configs =
    record { slots = map stopped_slot configs; logs = no_logs; ticks = []; offered = 0 }

-- what these configurations make: a new world of them, where no two share a Router ID; none,
-- where two do; or memory ran out
pub data Opens (configs : List Config) (result : Result WorldValue WorldFault) : Type 0 where
  Begins : (ShareRouter configs → ⊥) → result ≡ Ok (new_world configs) → Opens configs result
  SameRouter : ShareRouter configs → result ≡ Err fault.SameRouter → Opens configs result
  NoMemory : result ≡ Err (fault.Memory false) → Opens configs result

-- a configuration is added to those that have a slot: it has the next one, or is of a Router ID
-- that has one, or memory ran out
pub data AddsConfig (config : Config) (slots : List SlotValue) (places : tree.BTreeMap ℕ ℕ)
    (result : Result (Unit {0}) WorldFault) (slots' : List SlotValue) (places' : tree.BTreeMap ℕ ℕ)
    : Type 0 where
  Added : place_in places config.router_id.0 ≡ None → result ≡ Ok tt
      → slots' ≡ slots ++ stopped_slot config ∷ []
      → ((r : ℕ)
      → place_in places' r
      ≡ cond (config.router_id.0 == r) (Some (length slots)) (place_in places r))
      → AddsConfig config slots places result slots' places'
  SameRouter : (k : ℕ) → place_in places config.router_id.0 ≡ Some k → result ≡ Err fault.SameRouter
      → AddsConfig config slots places result slots' places'
  NoMemory : result ≡ Err (fault.Memory false)
      → AddsConfig config slots places result slots' places'

-- ---- the router of a Router ID

-- it is lent if it runs, and otherwise refused: the world has none, or it does not run
pub data Lends (w : World) (r : RouterId) (result : Result (Bor RouterValue) WorldFault)
    : Type 0 where
  Runs : (m : Member) (x : Bor RouterValue) → member w r ≡ Some m → result ≡ Ok x
      → IsLent m.running x.now → Lends w r result
  NoRouter : member w r ≡ None → result ≡ Err fault.NoRouter → Lends w r result
  NotRunning : (m : Member) → member w r ≡ Some m → m.running ≡ None → result ≡ Err fault.NotRunning
      → Lends w r result

-- the router of a slot is lent where it runs
pub data LendsSlot (s : SlotValue) (result : Result (Bor RouterValue) WorldFault) : Type 0 where
  SlotRuns : (x : Bor RouterValue) → result ≡ Ok x → IsLent s.running x.now → LendsSlot s result
  SlotStopped : s.running ≡ None → result ≡ Err fault.NotRunning → LendsSlot s result
