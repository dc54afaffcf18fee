-- Of which steps of a world a law holds: each that an event made, and each on the way to a world.
use Rattle.std.specs.Prelude.{◌≡◌, ⊤, List, [], ◌∷◌, Option, Some, Result, Ok}
use Rattle.ospf_area.specs.Outputs.{OutputsValue}
use Rattle.ospf_base.specs.Events.Events.{router_in}
use Rattle.ospf_base.specs.declared.event.event.WorldEvent.{WorldEvent}
use Rattle.ospf_base.specs.declared.event.event.WorldFault.{WorldFault}
use Rattle.ospf_world.specs.Logs.{LogsTake, LogsValue}
use Rattle.ospf_world.specs.Slots.{SlotValue, fed_by}
use Rattle.ospf_world.specs.World.{Running}
use Rattle.ospf_router.specs.Laws.{KeepsLaws}
use Rattle.ospf_router.specs.Stepped.{Stepped}
use Rattle.ospf_router.specs.AreaStep.Step.{Event}
use Rattle.ospf_router.specs.declared.step.dropped.Dropped.{Dropped}
use Rattle.ospf_world.specs.Does.{Changes, Does}
use Rattle.ospf_world.specs.Exact.{IsReachedExactly, RunsExactly, unoffered}
use Rattle.ospf_world.specs.Worlds.{WorldValue, configs_of, new_world}

-- the router of a slot took a step, by which a law holds, and the logs grew by exactly what it put
-- out
pub record SlotKeeps (Law : Stepped → Type 0) (e : Event) (before : SlotValue) (logs : LogsValue)
    (after : SlotValue) (logs' : LogsValue) : Type 0 where
  pub x : Running
  pub x' : Running
  pub dropped : Option Dropped
  pub out : OutputsValue
  pub was : before.running ≡ Some x
  pub is : after.running ≡ Some x'
  pub takes : LogsTake logs logs' before.config.router_id x.first x.later out
  pub keeps :
      Law
      (record {
        event = e;
        before = x.state;
        dropped = dropped;
        out = out;
        after = x'.state;
        table = x'.table;
      })

-- an event that steps its router, and is not refused, makes it take a step by which the law holds
abbrev pub KeepsAt : (Stepped → Type 0) → WorldEvent → WorldValue → Result (Unit {0}) WorldFault
    → WorldValue → Type 0
KeepsAt Law event before result after =
    (e : Event) → fed_by before.logs.datagrams event ≡ Some e → result ≡ Ok tt
    → (s : SlotValue) × (s' : SlotValue)
    × Changes (router_in event) s s' before.slots after.slots
    × SlotKeeps Law e s before.logs s' after.logs

-- what an event does in a world, and the step that it makes its router take keeps all nine laws
pub record DoesAndKeeps (event : WorldEvent) (before : WorldValue)
    (result : Result (Unit {0}) WorldFault) (after : WorldValue) : Type 0 where
  pub does : Does event before result after
  pub keeps : KeepsAt KeepsLaws event before result after

-- a law holds at each of the events that led from one world to the other
abbrev pub KeepsOnTheWay : (Law : Stepped → Type 0) (events : List WorldEvent)
    (before after : WorldValue) → RunsExactly events before after → Type 0
KeepsOnTheWay Law [] before after is = ⊤
KeepsOnTheWay Law (event ∷ events) before after (mid, result, does, rest) =
    KeepsAt Law event before result mid × KeepsOnTheWay Law events mid after rest

-- some events led from one world to the other, except for how many datagrams its rounds have
-- offered. Each did exactly what `Does` says, and each step that a router took keeps all nine laws
pub record KeepsBetween (before after : WorldValue) : Type 0 where
  pub events : List WorldEvent
  pub runs : RunsExactly events (unoffered before) (unoffered after)
  pub keep : KeepsOnTheWay KeepsLaws events (unoffered before) (unoffered after) runs

-- a law holds at each of the events that led to a world (`World::reached_exactly`)
abbrev pub OfEachWorld : (Stepped → Type 0) → Type 0
OfEachWorld Law =
    (w : WorldValue) → (is : IsReachedExactly w)
    → KeepsOnTheWay Law is.0 (new_world (configs_of w)) (unoffered w) is.1
