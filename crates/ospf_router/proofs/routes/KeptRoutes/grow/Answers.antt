use Rattle.std.proofs.Common.{◌≡◌, ◌∙◌, ℕ, List, Option, Some, IfSome, [], ap, subst, sym}
use Rattle.ospf_base.specs.declared.ids.RouterId.{RouterId}
use Rattle.ospf_graph.specs.EdgeLists.Listed.{advertisements_of}
use Rattle.ospf_lsa.specs.Listing.{IsListing}
use Rattle.ospf_lsdb.specs.Database.{IsDatabase, listed}
use Rattle.ospf_router.specs.Kept.{IsGrownFrom, IsServed, kept_lsas_in}
use Rattle.ospf_router.specs.Listings.{ListsAs, ListsBut}
use Rattle.ospf_router.specs.Routes.{AreRoutes, RoutesValue}
use Rattle.ospf_router.specs.declared.followed.Grown.{Grown}
use Rattle.ospf_router.proofs.ServedLemmas.{routes_of}
use Rattle.ospf_router.proofs.routes.KeptRoutes.grow.Goals as goal
use Rattle.ospf_router.proofs.routes.KeptRoutes.grow.Goals.{In-Some-2}
use Rattle.ospf_spf.specs.Spared.{SparesBut}
use Rattle.ospf_router.specs.Growing.{GrowingValue}

pub followed-requires : goal.followed-requires
followed-requires c =
    let e = sym (ap (λ (r : RoutesValue). r.listing) c.self.view_is) ∙ ap kept_lsas_in (sym c.take.ensures.value ∙ c.in-Some.is) in
    subst (λ (l : List (List ℕ)). ListsBut c.args.out.now c.args.database.now l) e c.requires

module _ (c : In-Some-2) where
  from : IsGrownFrom c.in-Some.tree [] c.in-Some-2.grown
  from = subst (λ (o : Option Grown). IfSome o (λ g. IsGrownFrom c.in-Some.tree [] g)) c.in-Some-2.is c.in_ok-grown.ensures.grown

  lists : ListsAs c.args.database.now c.in-Some-2.grown.tree.listing
  lists = subst (λ (o : Option Grown). IfSome o (λ g. ListsAs c.args.database.now g.tree.listing)) c.in-Some-2.is c.in_ok-grown.ensures.lists

  database : IsDatabase c.args.database.now
  database = subst (λ (o : Option Grown). IfSome o (λ _. IsDatabase c.args.database.now)) c.in-Some-2.is c.in_ok-grown.ensures.database

  listing : IsListing (listed c.args.database.now)
  listing = subst (λ (o : Option Grown). IfSome o (λ _. IsListing (listed c.args.database.now))) c.in-Some-2.is c.in_ok-grown.ensures.listing

  -- the tree that was kept
  served : IsServed c.self.inside.router c.self.inside.table (Some c.in-Some.tree)
  served = subst (λ (o : Option GrowingValue). IsServed c.self.inside.router c.self.inside.table o) (sym c.take.ensures.value ∙ c.in-Some.is) c.self.invariant

  root : c.in-Some-2.grown.tree.root ≡ c.self.inside.router
  root = from.root ∙ served.0

pub turn-requires-clause-root : goal.turn-requires-clause-root
turn-requires-clause-root c = root (goal.at.turn-requires-clause-root c).In-Some-2

pub turn-requires-clause-turned : goal.turn-requires-clause-turned
turn-requires-clause-turned c =
    let d = (goal.at.turn-requires-clause-turned c).In-Some-2 in
    let A = advertisements_of c.in-Some.tree.listing in
    (A, (served d).1, subst (λ (r : RouterId). SparesBut c.in-Some-2.grown.touched.items A (advertisements_of c.in-Some-2.grown.tree.listing) r) (served d).0 ((from d).spares))

pub returns-clause-table : goal.returns-clause-table
returns-clause-table c =
    let d = (goal.at.returns-clause-table c).In-Some-2 in
    let is = routes_of c.args.database.now c.self.inside.router c.in-Some-2.grown.tree.listing c.turn.new.self.table (database d) (listing d) (lists d) c.in_ok-changed.ensures.table in
    subst (λ (r : RouterId). AreRoutes r c.args.database.now c.turn.new.self.table) (ap (λ (r : RoutesValue). r.router) c.self.view_is) is
