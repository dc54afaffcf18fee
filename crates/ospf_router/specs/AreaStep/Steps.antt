-- A step of a router's area: an event that is not dropped is processed, and then the step ends.
use Rattle.std.specs.Prelude.{◌≡◌, ◌≢◌, Option, None}
use Rattle.ospf_area.specs.Outputs.{OutputsValue, no_outputs}
use Rattle.ospf_area.specs.State.{AreaValue}
use Rattle.ospf_router.specs.AreaStep.Step.{Event}
use Rattle.ospf_router.specs.declared.step.dropped.Dropped.{Dropped}
use Rattle.ospf_router.specs.AreaStep.Drops.{dropped_by}
use Rattle.ospf_router.specs.AreaStep.Ends.{EndsStep}
use Rattle.ospf_router.specs.AreaStep.Ready.{IsReadyFor}
use Rattle.ospf_router.specs.AreaStep.Takes.{TakesEvent}

-- the event is processed, and then the step ends
pub record Takes (e : Event) (s : AreaValue) (out : OutputsValue) (after : AreaValue) : Type 0 where
  -- the database is one, and nothing waits for the sender of a packet below Exchange (10.1)
  pub ready : IsReadyFor e s
  pub mid : AreaValue
  pub mid_out : OutputsValue
  pub event : TakesEvent e s no_outputs mid_out mid
  pub end : EndsStep mid mid_out out after

-- an event that is dropped, for the first cause that applies, changes nothing and has
-- no output, and any other is processed
pub record StepsArea (e : Event) (s : AreaValue) (dropped : Option Dropped) (out : OutputsValue)
    (after : AreaValue) : Type 0 where
  pub cause : dropped ≡ dropped_by e s
  pub unchanged : dropped ≢ None → after ≡ s
  pub silent : dropped ≢ None → out ≡ no_outputs
  pub takes : dropped ≡ None → Takes e s out after
