use Rattle.ospf_router.proofs.SettledLemmas.{dropped_same, step_lists}
use Rattle.ospf_area.specs.State.{AreaValue}
use Rattle.ospf_router.specs.Listings.{ListsAs}
use Rattle.ospf_router.specs.Routes.{AreRoutes}
use Rattle.ospf_router.proofs.router.advance.Goals as goal

pub refresh-requires-clause-as_before : goal.refresh-requires-clause-as_before
refresh-requires-clause-as_before c = λ t.
    dropped_same _ _ _ (λ (s : AreaValue). AreRoutes s.router s.database c.args.routes.now.table) c.in_ok-taken.ensures.step.unchanged t c.requires.routes

pub refresh-requires-clause-as_listed : goal.refresh-requires-clause-as_listed
refresh-requires-clause-as_listed c = λ t.
    dropped_same _ _ _ (λ (s : AreaValue). ListsAs s.database c.args.routes.now.listing) c.in_ok-taken.ensures.step.unchanged t c.requires.listing

pub refresh-requires-clause-listed : goal.refresh-requires-clause-listed
refresh-requires-clause-listed c = step_lists _ _ _ _ _ c.in_ok-taken.ensures.laws c.requires.listing
