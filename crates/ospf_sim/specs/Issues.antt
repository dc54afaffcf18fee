-- The LSAs that the journal of a simulation reports as issued are those that the steps of the
-- routers issue.
use Rattle.std.specs.Prelude.{◌≡◌, List, [], Result, map}
use Rattle.ospf_base.specs.declared.ids.Instance.{Instance}
use Rattle.ospf_base.specs.Events.Events.{router_in}
use Rattle.ospf_base.specs.declared.event.event.WorldEvent.{WorldEvent}
use Rattle.ospf_base.specs.declared.event.event.WorldFault.{WorldFault}
use Rattle.ospf_world.specs.Slots.{SlotGoesOn, SlotValue}
use Rattle.ospf_lsa.specs.Lsa.{instance_of}
use Rattle.ospf_router.specs.AreaStep.Step.{Event}
use Rattle.ospf_world.specs.Does.{Changes, Does}
use Rattle.ospf_world.specs.Worlds.{WorldValue}
use Rattle.ospf_sim.specs.Followed.{known_before, report_taken}

-- an event issued these instances: those of the LSAs that the exact step of its router issued
-- (12.4); or it stepped no router, no log grew, and there are none
pub data IssuedBy (event : WorldEvent) (before after : WorldValue) (issued : List Instance)
    : Type 0 where
  by_step : (s s' : SlotValue) → Changes (router_in event) s s' before.slots after.slots
      → (e : Event) (goes : SlotGoesOn e s before.logs s' after.logs)
      → issued ≡ map instance_of goes.out.issued → IssuedBy event before after issued
  by_none : after.logs ≡ before.logs → issued ≡ [] → IssuedBy event before after issued

-- the law: whatever an event does, the instances that the journal reports as issued by it are these
abbrev pub JournalsHaveIssues : Type 0
JournalsHaveIssues =
    (w w' : WorldValue) (event : WorldEvent) (answer : Result (Unit {0}) WorldFault)
    → Does event w answer w'
    → IssuedBy event w w' (report_taken w' answer (known_before w event)).issued
