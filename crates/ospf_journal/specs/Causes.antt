-- Why a router drops a datagram (RFC 2328, section 8.2).
use Rattle.std.specs.Prelude.{Option, None, Some}
use Rattle.ospf_area.specs.State.{AreaValue}
use Rattle.ospf_router.specs.AreaStep.Step.{Event}
use Rattle.ospf_router.specs.AreaStep.Drops.{dropped_by}
use Rattle.ospf_router.specs.declared.step.dropped.Dropped.{Dropped}

-- why a router that may have stopped drops what an event brings it
abbrev pub cause_of : Event → Option AreaValue → Option Dropped
cause_of e None = None
cause_of e (Some s) = dropped_by e s
