use Rattle.std.proofs.Common.{◌≡◌, ℕ, List, Option, Some, ap, subst, sym, ◌∙◌}
use Rattle.ospf_base.specs.declared.ids.LsaKey.{LsaKey}
use Rattle.ospf_router.specs.Kept.{IsServed, kept_lsas_in}
use Rattle.ospf_router.specs.Listings.{AreListedAt, ListsAs, ListsBut}
use Rattle.ospf_router.specs.Routes.{AreRoutes, RoutesValue}
use Rattle.ospf_router.proofs.KeepLemmas.{listing_all, lists_all}
use Rattle.ospf_router.proofs.ServedLemmas.{routes_of}
use Rattle.ospf_router.proofs.SettledLemmas.{none_brought}
use Rattle.ospf_router.proofs.routes.KeptRoutes.is_still.Goals as goal
use Rattle.ospf_router.proofs.routes.KeptRoutes.is_still.Goals.{Then-brings_none}
use Rattle.ospf_router.specs.Growing.{GrowingValue}

kept_is : (c : Then-brings_none) → c.args.self.now.listing ≡ c.in-Some.tree.listing
kept_is c = sym (ap (λ (r : RoutesValue). r.listing) c.self.view_is) ∙ ap kept_lsas_in c.in-Some.is

all_listed : (c : Then-brings_none) (key : LsaKey) → AreListedAt c.args.database.now key c.in-Some.tree.listing
all_listed c =
    let none = c.brings_none.ensures c.if-brings_none.true in
    none_brought c.args.out.now c.args.database.now c.in-Some.tree.listing (subst (λ (l : List (List ℕ)). ListsBut c.args.out.now c.args.database.now l) (kept_is c) c.requires) none.0 none.1

pub returns-then-brings_none-clause-routes : goal.returns-then-brings_none-clause-routes
returns-then-brings_none-clause-routes c = λ t.
    let d = (goal.at.returns-then-brings_none-clause-routes c).Then-brings_none in
    let tree = c.in-Some.tree in
    let db = c.args.database.now in
    let e = c.lists_as_many.ensures in
    let kept : IsServed c.self.inside.router c.self.inside.table (Some tree) = subst (λ (o : Option GrowingValue). IsServed c.self.inside.router c.self.inside.table o) c.in-Some.is c.self.invariant in
    let is = routes_of db c.self.inside.router tree.listing c.self.inside.table e.database (listing_all db tree.listing e.database e.listing (all_listed d) (e.many t))
    (lists_all db tree.listing e.database e.listing (all_listed d) (e.many t)) kept.1 in
    subst (λ (r : RoutesValue). AreRoutes r.router db r.table) c.self.view_is is

pub returns-then-brings_none-clause-listing : goal.returns-then-brings_none-clause-listing
returns-then-brings_none-clause-listing c = λ t.
    let d = (goal.at.returns-then-brings_none-clause-listing c).Then-brings_none in
    let tree = c.in-Some.tree in
    let db = c.args.database.now in
    let e = c.lists_as_many.ensures in
    subst (λ (l : List (List ℕ)). ListsAs db l) (sym (kept_is d)) (lists_all db tree.listing e.database e.listing (all_listed d) (e.many t))
