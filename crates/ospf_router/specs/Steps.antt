-- A step of a router: what an event does to its area, and its routing table after it
-- (RFC 2328, sections 8.2 and 16.1).
use Rattle.std.specs.Prelude.{◌≡◌, ◌≢◌, ◌↔◌, IsTrue, Some}
use Rattle.ospf_area.specs.State.{AreaValue}
use Rattle.ospf_router.specs.AreaStep.Step.{Event}
use Rattle.ospf_router.specs.AreaStep.Steps.{StepsArea}
use Rattle.ospf_router.specs.Routers.{RouterValue}
use Rattle.ospf_router.specs.Routes.{AreRoutes}
use Rattle.ospf_router.specs.declared.router.Step.{Step}
pub use Rattle.ospf_router.specs.AreaStep.Drops.{is_dropped}
pub use Rattle.ospf_router.specs.AreaStep.Events.{happening}

-- an event happens at a router: its area drops or takes it, by the exact rules of the event, and
-- then its routing table is that of what the database lists. `table_changed` says whether the table
-- is different from the one before
pub record Steps (e : Event) (before : RouterValue) (t : Step) (after : RouterValue) : Type 0 where
  pub area : AreaValue
  pub next : AreaValue
  pub runs : before.area ≡ Some area
  pub is : after.area ≡ Some next
  pub steps : StepsArea e area t.dropped t.out next
  pub routes : AreRoutes next.router next.database after.table
  pub changed : IsTrue t.table_changed ↔ (after.table ≢ before.table)
  pub same_links : after.links ≡ before.links
  pub same_floor : after.floor ≡ before.floor
