use Rattle.std.proofs.Common.{ℕ, List, Option, Some, ap, map, subst, sym, ◌∙◌}
use Rattle.ospf_base.specs.Sums.{contents}
use Rattle.ospf_router.specs.Kept.{IsServed, kept_lsas_in}
use Rattle.ospf_router.specs.Listings.{ListsAs}
use Rattle.ospf_router.specs.Routes.{AreRoutes, RoutesValue}
use Rattle.ospf_router.proofs.ServedLemmas.{routes_of}
use Rattle.ospf_router.proofs.routes.KeptRoutes.is_current.Goals as goal
use Rattle.ospf_router.specs.Growing.{GrowingValue}

pub returns-in-Some-clause-routes : goal.returns-in-Some-clause-routes
returns-in-Some-clause-routes c = λ t.
    let tree = c.in-Some.tree in
    let db = c.args.database.now in
    let kept : IsServed c.self.inside.router c.self.inside.table (Some tree) = subst (λ (o : Option GrowingValue). IsServed c.self.inside.router c.self.inside.table o) c.in-Some.is c.self.invariant in
    let same = subst (λ (l : List (List ℕ)). ListsAs db l) c.listing.ensures (c.lists_as.ensures.same t) in
    let is = routes_of db c.self.inside.router tree.listing c.self.inside.table c.lists_as.ensures.database (c.lists_as.ensures.listing t) same kept.1 in
    subst (λ (r : RoutesValue). AreRoutes r.router db r.table) c.self.view_is is

pub returns-in-Some-clause-listing : goal.returns-in-Some-clause-listing
returns-in-Some-clause-listing c = λ t.
    c.lists_as.ensures.same t ∙ ap (λ (l : List (List ℕ)). map contents l) c.listing.ensures
    ∙ ap (λ (o : Option GrowingValue). map contents (kept_lsas_in o)) (sym c.in-Some.is) ∙ ap (λ (r : RoutesValue). map contents r.listing) c.self.view_is
