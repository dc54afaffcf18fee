-- Sound acknowledgement from one moment of a world to another.
use Rattle.std.specs.Prelude.{List}
use Rattle.ospf_world.specs.Sound.{IsSoundAcknowledgement}
use Rattle.ospf_world.specs.World.{Happens, RunsEvents, World}
use Rattle.ospf_base.specs.declared.event.event.WorldEvent.{WorldEvent}
use Rattle.ospf_router.specs.Steps.{is_dropped}

-- some events lead from one to the other, and whatever events do,
-- acknowledgement is sound at each of them
pub record IsSoundBetween (before after : World) : Type 0 where
  pub leads : (events : List WorldEvent) × RunsEvents is_dropped events before after
  pub each : (earlier later : List WorldEvent) (event : WorldEvent) (mid next : World) →
      RunsEvents is_dropped earlier before mid → Happens is_dropped event mid next
      → RunsEvents is_dropped later next after → IsSoundAcknowledgement event mid next
