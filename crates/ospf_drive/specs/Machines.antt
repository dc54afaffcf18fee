-- What a driver steps, and by which rules it goes on.
use Rattle.std.specs.Prelude.{◌≡◌, ◌↔◌, Some, None}
use Rattle.ospf_area.specs.State.{AreaValue}
use Rattle.ospf_router.specs.Routers.{RouterValue}
use Rattle.ospf_router.specs.Steps.{Steps}
use Rattle.ospf_router.specs.declared.router.Step.{Step}
use Rattle.ospf_router.specs.AreaStep.Drops.{dropped_by}
use Rattle.ospf_router.specs.AreaStep.Step.{Event}

-- the rules of a machine: which steps it makes, by the event, the router before it, what the step
-- gives and the router after it; and at which events it may stop
pub record Rules : Type 1 where
  pub steps : Event → RouterValue → Step → RouterValue → Type 0
  pub stops : Event → RouterValue → Type 0

-- the rules of a router: it makes its exact steps, and stops at no event that is dropped, since
-- that takes no memory
abbrev pub router_rules : Rules
router_rules = record {
  steps = Steps;
  stops = λ e r. (s : AreaValue) → r.area ≡ Some s → dropped_by e s ≡ None;
}

-- these rules are those of a router: the same steps, and the same events at which it may stop
pub record AreRouterRules (rules : Rules) : Type 0 where
  pub steps : (e : Event) (before : RouterValue) (t : Step) (after : RouterValue)
      → rules.steps e before t after ↔ Steps e before t after
  pub stops : (e : Event) (before : RouterValue)
      → rules.stops e before ↔ router_rules.stops e before
