-- A router stops at no event that is dropped.
use Rattle.std.proofs.Common.{◌≡◌, OnErr, None, Some, Result, Ok, Err}
use Rattle.ospf_area.specs.State.{AreaValue}
use Rattle.ospf_drive.specs.Machines.{router_rules}
use Rattle.ospf_router.specs.Routers.{RouterValue}
use Rattle.ospf_router.specs.AreaStep.Drops.{dropped_by}
use Rattle.ospf_router.specs.AreaStep.Step.{Event}

-- what holds of each area where it stops
pub may_stop : {A E : Type 0} (result : Result A E) (e : Event) (r : RouterValue) → ((s : AreaValue) → r.area ≡ Some s → OnErr result (dropped_by e s ≡ None)) → OnErr result (router_rules.stops e r)
may_stop (Ok a) e r each = tt
may_stop (Err f) e r each = each
