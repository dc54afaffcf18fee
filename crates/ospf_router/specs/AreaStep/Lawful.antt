-- What follows from a step for other routers.
use Rattle.std.specs.Prelude.{Option}
use Rattle.ospf_area.specs.Outputs.{OutputsValue}
use Rattle.ospf_area.specs.State.{AreaValue}
use Rattle.ospf_router.specs.AreaStep.Accounts.{Accounts}
use Rattle.ospf_router.specs.AreaStep.Drops.{is_dropped}
use Rattle.ospf_router.specs.AreaStep.Fit.{IsFitRouter}
use Rattle.ospf_router.specs.AreaStep.Step.{Event, StepLaws, heard_in}
use Rattle.ospf_router.specs.AreaStep.Steps.{StepsArea}
use Rattle.ospf_router.specs.AreaStep.Words.{IsSoundState}
use Rattle.ospf_router.specs.declared.step.dropped.Dropped.{Dropped}

-- its parts in their order, each of a stated kind, and what the router accounts for
pub record IsLawful (e : Event) (s : AreaValue) (out : OutputsValue) (after : AreaValue)
    : Type 0 where
  pub laws : StepLaws is_dropped e s out after
  pub accounts : Accounts (heard_in e) s out after

-- each step by the rules is lawful, from a state that is fit and sound
abbrev pub StepsAreLawful : Type 0
StepsAreLawful =
    (e : Event) (s : AreaValue) (dropped : Option Dropped) (out : OutputsValue) (after : AreaValue)
    → IsFitRouter s → IsSoundState s → StepsArea e s dropped out after → IsLawful e s out after

-- and leaves a state that is fit and sound again: so each of a whole list of steps is lawful
abbrev pub StepsStayKept : Type 0
StepsStayKept =
    (e : Event) (s : AreaValue) (dropped : Option Dropped) (out : OutputsValue) (after : AreaValue)
    → IsFitRouter s → IsSoundState s → StepsArea e s dropped out after
    → IsFitRouter after × IsSoundState after
