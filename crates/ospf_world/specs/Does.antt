-- What a world event does in code, at the router that it names.
use Rattle.std.specs.Prelude.{◌≡◌, ◌++◌, ℕ, List, None, Some, Result, Err, length, slice_get, slice_set}
use Rattle.ospf_base.specs.declared.ids.RouterId.{RouterId}
use Rattle.ospf_base.specs.declared.event.event.WorldEvent.{WorldEvent}
use Rattle.ospf_base.specs.declared.event.event.WorldFault.{WorldFault}
use Rattle.ospf_base.specs.declared.event.event.WorldFault.TheVariants as fault
use Rattle.ospf_world.specs.Slots.{SlotSteps, SlotValue}
use Rattle.ospf_base.specs.Events.Events.{router_in}
use Rattle.ospf_world.specs.Ticks.{ticked_by}
use Rattle.ospf_world.specs.Worlds.{WorldValue, place_of}

-- the slot of the router of this Router ID is s, and becomes s'; no other slot changes
pub record Changes (r : RouterId) (s s' : SlotValue) (before after : List SlotValue) : Type 0 where
  pub place : ℕ
  pub stands : place_of before r.0 ≡ Some place
  pub was : slice_get before place ≡ Some s
  pub is : after ≡ slice_set before place s'

-- the event is applied to the router that it names, by the rules of its slot: it is refused, or the
-- router starts exactly as it is configured, stops, or takes the exact step of what the event feeds
-- it. The log of ticks grows by the ticks that are taken, and what the rounds have offered is
-- unchanged. An event for a router that the world does not have is refused
pub data Does (event : WorldEvent) (before : WorldValue) (result : Result (Unit {0}) WorldFault)
    (after : WorldValue) : Type 0 where
  NoRouter : place_of before.slots (router_in event).0 ≡ None → result ≡ Err fault.NoRouter
      → after ≡ before → Does event before result after
  AtRouter : (s s' : SlotValue) → Changes (router_in event) s s' before.slots after.slots
      → SlotSteps event s before.logs result s' after.logs
      → after.ticks ≡ before.ticks ++ ticked_by event result (length before.logs.datagrams)
      → after.offered ≡ before.offered → Does event before result after
